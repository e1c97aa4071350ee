use Rattle.std.proofs.Common.{◌-◌, ◌++◌, length, refl, subst, arith}
use Rattle.std.proofs.lemmas.Result.{err_from_is_err_and}
use Rattle.hprof_values.specs.Lists.{identifiers_of}
use Rattle.hprof_lines.specs.Stopping.{WritesText}
use Rattle.hprof_lines.proofs.TextWriting.{text_stops, text_then}
use Rattle.hprof_show.specs.ElementLines.{more_line, nulls_line, present_from, present_text}
use Rattle.hprof_show.proofs.ToldElements.{elements_parts, present_few}
use Rattle.hprof_show.proofs.element_lines.write_elements.Goals as goal

pub returns-in_err-present-clause-bytes : goal.returns-in_err-present-clause-bytes
returns-in_err-present-clause-bytes g c = λ found is.
    let all = identifiers_of c.args.elements.now in
    let count = length (present_from 0 all) in
    let told = present_text found all in
    let r = c.from_residual.result in
    let old = g.W.Target.written c.args.target.now in
    let new = g.W.Target.written c.write_present.new.target in
    let p = err_from_is_err_and r c.from_residual.ensures.1 in
    subst (WritesText old new r) (elements_parts found all count (length all) refl refl)
    (text_stops r old new p.0 told (more_line 100 count ++ nulls_line (length all - count)) p.1 (c.in_err-present.ensures.bytes found is))

pub returns-in_err-write_line-clause-bytes : goal.returns-in_err-write_line-clause-bytes
returns-in_err-write_line-clause-bytes g c = λ found is.
    let all = identifiers_of c.args.elements.now in
    let count = c.in_ok-present.present in
    let told = present_text found all in
    let more = more_line 100 count in
    let nulls = nulls_line (length all - count) in
    let r = c.from_residual-in_err-write_line.result in
    let old = g.W.Target.written c.args.target.now in
    let mid = g.W.Target.written c.write_present.new.target in
    let new = g.W.Target.written c.write_line.new.target in
    let p = err_from_is_err_and r c.from_residual-in_err-write_line.ensures.1 in
    subst (WritesText old new r) (elements_parts found all count (length all) c.in_ok-present.ensures.count refl)
    (text_then r old mid new told (more ++ nulls) (c.in_ok-present.ensures.bytes found is)
    (text_stops r mid new p.0 more nulls p.1 (c.in_err-write_line.ensures.bytes more c.more_line.ensures)))

pub returns-clause-bytes : goal.returns-clause-bytes
returns-clause-bytes g c = λ found is.
    let all = identifiers_of c.args.elements.now in
    let count = c.in_ok-present.present in
    let told = present_text found all in
    let more = more_line 100 count in
    let nulls = nulls_line (c.len.result - count) in
    let r = c.write_line-2.result in
    let old = g.W.Target.written c.args.target.now in
    let mid = g.W.Target.written c.write_present.new.target in
    let after = g.W.Target.written c.write_line.new.target in
    let new = g.W.Target.written c.write_line-2.new.target in
    subst (WritesText old new r) (elements_parts found all count c.len.result c.in_ok-present.ensures.count c.len.ensures)
    (text_then r old mid new told (more ++ nulls) (c.in_ok-present.ensures.bytes found is)
    (text_then r mid after new more nulls (c.in_ok-write_line.ensures.bytes more c.more_line.ensures)
    (c.write_line-2.ensures.bytes nulls c.nulls_line.ensures)))

pub overflow_sub-len : goal.overflow_sub-len
overflow_sub-len g c =
    omega (arith, c.in_ok-present.ensures.count, c.len.ensures, present_few 0 (identifiers_of c.args.elements.now))
