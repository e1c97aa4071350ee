use Rattle.std.proofs.Common.{◌≡◌, ◌/◌, length, subst, arith}
use Rattle.std.specs.Prelude.{min}
use Rattle.std.proofs.lemmas.Result.{err_from_is_err_and}
use Rattle.hprof_heap.specs.HeapFacts.{size_of}
use Rattle.hprof_lines.specs.Stopping.{WritesText}
use Rattle.hprof_lines.proofs.TextWriting.{text_stops, text_then}
use Rattle.hprof_show.specs.ElementLines.{more_line}
use Rattle.hprof_show.specs.NumberLines.{rows_text}
use Rattle.hprof_show.proofs.Rows.{numbers_parts}
use Rattle.hprof_show.proofs.number_lines.write_numbers.Goals as goal

pub returns-in_err-write_rows-clause-bytes : goal.returns-in_err-write_rows-clause-bytes
returns-in_err-write_rows-clause-bytes g c = λ found is.
    let bytes = c.args.bytes.now in
    let elem = c.args.elem in
    let width = c.width.result in
    let told = c.min-told.result in
    let rows = rows_text found elem bytes told in
    let more = more_line 256 (length bytes / width) in
    let few : told ≡ min 256 (length bytes / width) = omega (arith, c.min-told.ensures) in
    let whole = numbers_parts found elem bytes (size_of c.args.heap.now) c.id_size.result width told is.ids_are c.id_size.ensures.value
    c.width.ensures few in
    let r = c.from_residual.result in
    let old = g.W.Target.written c.args.target.now in
    let new = g.W.Target.written c.write_rows.new.target in
    let p = err_from_is_err_and r c.from_residual.ensures.1 in
    subst (WritesText old new r) whole (text_stops r old new p.0 rows more p.1 (c.in_err-write_rows.ensures.bytes found is))

pub returns-clause-bytes : goal.returns-clause-bytes
returns-clause-bytes g c = λ found is.
    let bytes = c.args.bytes.now in
    let elem = c.args.elem in
    let width = c.width.result in
    let told = c.min-told.result in
    let rows = rows_text found elem bytes told in
    let more = more_line 256 (length bytes / width) in
    let few : told ≡ min 256 (length bytes / width) = omega (arith, c.min-told.ensures) in
    let whole = numbers_parts found elem bytes (size_of c.args.heap.now) c.id_size.result width told is.ids_are c.id_size.ensures.value
    c.width.ensures few in
    let r = c.write_line.result in
    let old = g.W.Target.written c.args.target.now in
    let mid = g.W.Target.written c.write_rows.new.target in
    let new = g.W.Target.written c.write_line.new.target in
    subst (WritesText old new r) whole
    (text_then r old mid new rows more (c.in_ok-write_rows.ensures.bytes found is) (c.write_line.ensures.bytes more c.more_line.ensures))
