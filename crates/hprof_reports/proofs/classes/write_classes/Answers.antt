use Rattle.std.proofs.Common.{None, refl}
use Rattle.std.specs.Prelude.{⊤}
use Rattle.hprof_heap.specs.HeapFacts.{facts_of, size_of}
use Rattle.hprof_passes.specs.Passing.{IsItself}
use Rattle.hprof_histogram.specs.Known.{MadeUpWith}
use Rattle.hprof_naming.proofs.Namings.{naming_exists}
use Rattle.hprof_reports.specs.ClassDumps.{dumps_in}
use Rattle.hprof_reports.specs.ClassesText.{IsClassesText, classes_text}
use Rattle.hprof_reports.proofs.ClassLists.{classes_text_is}
use Rattle.hprof_lines.proofs.PassedEnds.{in_memory}
use Rattle.hprof_reports.proofs.classes.write_classes.Goals as goal

-- memory may be wanted before the first line
pub returns-in-Err-clause-bytes : goal.returns-in-Err-clause-bytes
returns-in-Err-clause-bytes g c =
    let ids = size_of c.args.heap.now in
    let facts = facts_of c.args.heap.now in
    in_memory (MadeUpWith (IsItself ids facts) ids None) ⊤ (λ fault. ⊥) (IsClassesText ids) g.W.Target.written g.W.Target.health
    c.args.target.now c.write_classes_over.new.target facts (
      record {
        same = refl;
        fit = c.holds_of_heap.ensures.fit;
        ordered = c.holds_of_heap.ensures.ordered;
      },
      tt,
    ) (let naming = naming_exists facts in (
      classes_text naming.0 ids facts (dumps_in facts),
      classes_text_is ids facts c.holds_of_heap.ensures.agree c.holds_of_heap.ensures.ordered naming.0 naming.1,
    )) c.in-Err.stop c.of_sink.result c.of_sink.ensures c.in-Err.ensures
