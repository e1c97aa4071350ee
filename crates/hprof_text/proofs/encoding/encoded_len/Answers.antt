use Rattle.std.proofs.Common.{slice_index, arith}
use Rattle.hprof_text.specs.ModifiedUtf8.{unit_bytes}
use Rattle.hprof_text.proofs.Rows.{length-unit_bytes-le}
use Rattle.hprof_text.proofs.Fronts.{length-flat_map_more}
use Rattle.hprof_text.proofs.encoding.encoded_len.Goals as goal

pub overflow_add-len : goal.overflow_add-len
overflow_add-len c =
    let unit = slice_index c.args.units.now c.loop-unit.unit-index in
    let most = length-unit_bytes-le unit in
    omega (arith, most)

pub loop-unit-preserved : goal.loop-unit-preserved
loop-unit-preserved c =
    let unit = slice_index c.args.units.now c.loop-unit.unit-index in
    let most = length-unit_bytes-le unit in
    let more = length-flat_map_more unit_bytes c.args.units.now c.loop-unit.unit-index (omega arith) in
    record {
      so_far = omega (arith, more);
      small = omega (arith, most);
    }
