use Rattle.std.proofs.lemmas.Result.{err_from_is_err_and}
use Rattle.hprof_lines.proofs.TextWriting.{text_stops, text_then}
use Rattle.hprof_heap.specs.ObjectDump.{fact_of_object}
use Rattle.hprof_show.specs.ShowText.{contents_text, object_line, object_text}
use Rattle.hprof_show.proofs.show.write_object.Goals as goal

pub returns-in_err-write_line-clause-bytes : goal.returns-in_err-write_line-clause-bytes
unfolding object_text
returns-in_err-write_line-clause-bytes g c = λ found shown is are.
    let fact = fact_of_object c.args.dump.now in
    let line = object_line found c.args.id fact in
    let contents = contents_text found shown fact in
    let r = c.from_residual.result in
    let old = g.W.Target.written c.args.target.now in
    let after_line = g.W.Target.written c.write_line.new.target in
    let p = err_from_is_err_and r c.from_residual.ensures.1 in
    text_stops r old after_line p.0 line contents p.1
    (c.in_err-write_line.ensures.bytes line (c.object_line.ensures found is))

pub returns-clause-bytes : goal.returns-clause-bytes
unfolding object_text
returns-clause-bytes g c = λ found shown is are.
    let fact = fact_of_object c.args.dump.now in
    let line = object_line found c.args.id fact in
    let contents = contents_text found shown fact in
    let r = c.write_contents.result in
    let old = g.W.Target.written c.args.target.now in
    let after_line = g.W.Target.written c.write_line.new.target in
    let after_contents = g.W.Target.written c.write_contents.new.target in
    text_then r old after_line after_contents line contents
    (c.in_ok-write_line.ensures.bytes line (c.object_line.ensures found is))
    (c.write_contents.ensures.bytes found shown is are)
