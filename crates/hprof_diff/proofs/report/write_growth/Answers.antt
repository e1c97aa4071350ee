use Rattle.std.proofs.Common.{None, refl}
use Rattle.std.specs.Prelude.{⊤}
use Rattle.hprof_heap.specs.HeapFacts.{facts_of, size_of}
use Rattle.hprof_passes.specs.Passing.{IsItself}
use Rattle.hprof_histogram.specs.Known.{MadeUpWith}
use Rattle.hprof_lines.proofs.PassedEnds.{in_memory}
use Rattle.hprof_diff.specs.DifferenceText.{IsGrowthText, changes_text}
use Rattle.hprof_diff.specs.Kept.{totals_in}
use Rattle.hprof_diff.specs.OneChanges.{growth_exists}
use Rattle.hprof_diff.specs.OneTotal.{totals_exist}
use Rattle.hprof_diff.proofs.report.write_growth.Goals as goal

-- memory may be wanted before the first line
pub returns-in-Err-clause-bytes : goal.returns-in-Err-clause-bytes
returns-in-Err-clause-bytes g c =
    let ids = size_of c.args.heap.now in
    let facts = facts_of c.args.heap.now in
    let new = totals_exist ids facts in
    let changes = growth_exists c.args.old.now ids facts new.0 new.1 in
    in_memory (MadeUpWith (IsItself ids facts) ids None) ⊤ (λ fault. ⊥) (IsGrowthText (totals_in c.args.old.now) ids) g.W.Target.written
    g.W.Target.health c.args.target.now c.write_growth_over.new.target facts (
      record {
        same = refl;
        fit = c.holds_of_heap.ensures.fit;
        ordered = c.holds_of_heap.ensures.ordered;
      },
      tt,
    ) (
      changes_text changes.0,
      record {
        agree = c.holds_of_heap.ensures.agree;
        new = new.0;
        are_totals = new.1;
        is = record { changes = changes.0; is_difference = changes.1; is = refl };
      },
    ) c.in-Err.stop c.of_sink.result c.of_sink.ensures c.in-Err.ensures
