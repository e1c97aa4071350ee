use Rattle.std.proofs.Common.{◌<◌, ◌∙◌, length, add-one, arith, refl}
use Rattle.std.proofs.lemmas.List.{length-set}
use Rattle.hprof_runs.proofs.Lengths.{all_lengths, length_read, set_length}
use Rattle.hprof_runs.proofs.ahead.Ahead.read.Goals as goal

pub loop-i-preserved : goal.loop-i-preserved
loop-i-preserved c =
    let i = c.loop-i.i in
    let lengths = c.loop-i.lengths in
    let places = c.args.places.now in
    let place = c.index-places-i.result in
    let content = c.bytes_at.result.now in
    let end = c.min-i-end.ensures in
    let test = c.loop-i-test.true in
    let size = c.loop-i.invariant.size in
    let lt : i < length places = omega arith in
    let room : i < length lengths = omega arith in
    let own = length_read c.args.bytes.now place content (length content) c.bytes_at.ensures refl in
    record {
      read = rw add-one
          (set_length c.args.bytes.now places lengths i place (length content) c.loop-i.invariant.read lt c.index-places-i.is room own);
      size = length-set lengths i (length content) ∙ size;
    }

pub returns : goal.returns
returns c =
    let end = c.min-i-end.ensures in
    let all = c.loop-i.auto.i-end in
    let test = c.loop-i-test.false in
    let size = c.loop-i.invariant.size in
    all_lengths c.args.bytes.now c.args.places.now c.loop-i.lengths c.loop-i.i c.loop-i.invariant.read (omega arith)
