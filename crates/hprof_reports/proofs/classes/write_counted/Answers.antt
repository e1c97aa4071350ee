use Rattle.std.proofs.Common.{List, sym, subst}
use Rattle.std.proofs.lemmas.Result.{err_from_is_err_and}
use Rattle.hprof_heap.specs.Classes.{ClassValue}
use Rattle.hprof_heap.specs.HeapFacts.{facts_of, size_of}
use Rattle.hprof_naming.proofs.Namings.{naming_exists}
use Rattle.hprof_rows.proofs.Order.{order_agrees}
use Rattle.hprof_reports.specs.ClassDumps.{dumps_in}
use Rattle.hprof_reports.specs.ClassesText.{classes_text}
use Rattle.hprof_lines.specs.Stopping.{WritesText}
use Rattle.hprof_reports.proofs.ClassLists.{classes_text_is}
use Rattle.hprof_lines.proofs.TextWriting.{text_unwritten}
use Rattle.hprof_lines.proofs.WholeNames.{naming_same}
use Rattle.hprof_reports.proofs.WholeDumps.{dumps_same}
use Rattle.hprof_reports.proofs.classes.write_counted.Goals as goal

-- memory was wanted before the first line
pub returns-in_err-names-clause-bytes : goal.returns-in_err-names-clause-bytes
returns-in_err-names-clause-bytes g c = λ all whole counted.
    let ids = size_of c.args.heap.now in
    let naming = naming_exists all in
    let text = classes_text naming.0 ids all (dumps_in all) in
    let p = err_from_is_err_and c.from_residual.result c.from_residual.ensures.1 in (
      text,
      classes_text_is ids all (order_agrees all whole.ordered) whole.ordered naming.0 naming.1,
      text_unwritten c.from_residual.result (g.W.Target.written c.args.target.now) p.0 text p.1,
    )

pub returns-clause-bytes : goal.returns-clause-bytes
returns-clause-bytes g c = λ all whole counted.
    let ids = size_of c.args.heap.now in
    let facts = facts_of c.args.heap.now in
    let naming = naming_exists all in (
      classes_text naming.0 ids all (dumps_in all),
      classes_text_is ids all (order_agrees all whole.ordered) whole.ordered naming.0 naming.1,
      subst (λ (dumps : List ClassValue). WritesText (g.W.Target.written c.args.target.now) (g.W.Target.written c.write_dumps.new.target)
          c.write_dumps.result (classes_text naming.0 ids all dumps)) (sym (dumps_same ids facts all whole))
          (c.write_dumps.ensures.bytes naming.0 all (naming_same ids facts all whole naming.0 naming.1) counted),
    )
