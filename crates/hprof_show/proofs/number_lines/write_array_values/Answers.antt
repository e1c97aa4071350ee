use Rattle.std.proofs.Common.{subst}
use Rattle.std.proofs.lemmas.Result.{err_from_is_err_and}
use Rattle.hprof_lines.specs.Stopping.{WritesText}
use Rattle.hprof_lines.proofs.TextWriting.{text_stops, text_then}
use Rattle.hprof_show.specs.NumberLines.{numbers_text, quoted_line}
use Rattle.hprof_show.proofs.Rows.{bytes_parts}
use Rattle.hprof_show.proofs.number_lines.write_array_values.Goals as goal

pub returns-in_err-write_line-in-Byte-clause-bytes : goal.returns-in_err-write_line-in-Byte-clause-bytes
returns-in_err-write_line-in-Byte-clause-bytes g c = λ found is.
    let bytes = c.args.bytes.now in
    let elem = c.args.elem in
    let r = c.from_residual.result in
    let old = g.W.Target.written c.args.target.now in
    let new = g.W.Target.written c.write_line-in-Byte.new.target in
    let p = err_from_is_err_and r c.from_residual.ensures.1 in
    subst (WritesText old new r) (bytes_parts found elem bytes c.in-Byte.is)
    (text_stops r old new p.0 (quoted_line bytes) (numbers_text found elem bytes) p.1
    (c.in_err-write_line-in-Byte.ensures.bytes (quoted_line bytes) c.quoted_line-in-Byte.ensures))

pub returns-in_ok-write_line-in-Byte-clause-bytes : goal.returns-in_ok-write_line-in-Byte-clause-bytes
returns-in_ok-write_line-in-Byte-clause-bytes g c = λ found is.
    let bytes = c.args.bytes.now in
    let elem = c.args.elem in
    let r = c.write_numbers.result in
    let old = g.W.Target.written c.args.target.now in
    let mid = g.W.Target.written c.write_line-in-Byte.new.target in
    let new = g.W.Target.written c.write_numbers.new.target in
    subst (WritesText old new r) (bytes_parts found elem bytes c.in-Byte.is)
    (text_then r old mid new (quoted_line bytes) (numbers_text found elem bytes)
    (c.in_ok-write_line-in-Byte.ensures.bytes (quoted_line bytes) c.quoted_line-in-Byte.ensures)
    (c.write_numbers.ensures.bytes found is))
