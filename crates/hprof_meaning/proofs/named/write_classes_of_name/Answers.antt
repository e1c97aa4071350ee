use Rattle.std.proofs.Common.{length, refl}
use Rattle.std.proofs.lemmas.Result.{err_from_is_err_and}
use Rattle.hprof_heap.specs.HeapFacts.{facts_of, size_of}
use Rattle.hprof_lines.proofs.TextWriting.{text_stops, text_then}
use Rattle.hprof_describe.proofs.OneFinding.{findings_exist}
use Rattle.hprof_meaning.specs.NamedText.{class_lines, named_text, number_line}
use Rattle.hprof_meaning.proofs.named.write_classes_of_name.Goals as goal

pub returns-in_err-write_line-clause-bytes : goal.returns-in_err-write_line-clause-bytes
returns-in_err-write_line-clause-bytes g c =
    let classes = c.args.classes.now in
    let agree = c.holds_of_heap.ensures.agree in
    let found = findings_exist (size_of c.args.heap.now) (facts_of c.args.heap.now) agree in
    let r = c.from_residual.result in
    let p = err_from_is_err_and r c.from_residual.ensures.1 in (
      named_text found.0 classes,
      record { agree = agree; found = found.0; are_found = found.1; is = refl },
      text_stops r (g.W.Target.written c.args.target.now) (g.W.Target.written c.write_line.new.target) p.0 (number_line (length classes))
          (class_lines found.0 classes) p.1 (c.in_err-write_line.ensures.bytes (number_line (length classes)) c.number_line.ensures),
    )

pub returns-clause-bytes : goal.returns-clause-bytes
returns-clause-bytes g c =
    let classes = c.args.classes.now in
    let agree = c.holds_of_heap.ensures.agree in
    let found = findings_exist (size_of c.args.heap.now) (facts_of c.args.heap.now) agree in (
      named_text found.0 classes,
      record { agree = agree; found = found.0; are_found = found.1; is = refl },
      text_then c.write_classes.result (g.W.Target.written c.args.target.now) (g.W.Target.written c.write_line.new.target)
          (g.W.Target.written c.write_classes.new.target) (number_line (length classes)) (class_lines found.0 classes)
          (c.in_ok-write_line.ensures.bytes (number_line (length classes)) c.number_line.ensures)
          (c.write_classes.ensures.bytes found.0 found.1),
    )
