use Rattle.std.proofs.lemmas.Result.{err_from_is_err_and}
use Rattle.hprof_heap.specs.HeapFacts.{facts_of, size_of}
use Rattle.hprof_lines.proofs.TextWriting.{text_unwritten}
use Rattle.hprof_by_label.proofs.SomeRetained.{retained_exists}
use Rattle.hprof_by_label.proofs.report.write_retained.Goals as goal

-- memory was wanted before the first line
pub returns-in_err-labels-clause-bytes : goal.returns-in_err-labels-clause-bytes
returns-in_err-labels-clause-bytes g c =
    let text = retained_exists (size_of c.args.heap.now) (facts_of c.args.heap.now) c.holds_of_heap.ensures.agree in
    let r = c.from_residual in
    let p = err_from_is_err_and r.result r.ensures.1 in
    (text.0, text.1, text_unwritten r.result (g.W.Target.written c.args.target.now) p.0 text.0 p.1)

pub write_labels-requires-clause-as_many : goal.write_labels-requires-clause-as_many
write_labels-requires-clause-as_many g c = c.in_ok-labels.ensures.labels.as_many

pub returns-clause-bytes : goal.returns-clause-bytes
returns-clause-bytes g c =
    c.write_labels.ensures.bytes (size_of c.args.heap.now) (facts_of c.args.heap.now) c.holds_of_heap.ensures.agree c.requires.retained
    c.in_ok-labels.ensures.labels c.in_ok-labels.ensures.sizes
