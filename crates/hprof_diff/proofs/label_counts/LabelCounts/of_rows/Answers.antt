use Rattle.std.proofs.Common.{List, sym, subst}
use Rattle.std.specs.List.Sorted.{IsPermutation}
use Rattle.hprof_heap.specs.HeapFacts.{facts_of, size_of}
use Rattle.hprof_naming.proofs.Namings.{of_text}
use Rattle.hprof_diff.specs.declared.label_count.LabelCount.{LabelCount}
use Rattle.hprof_diff.specs.Counts.{AreTotals}
use Rattle.hprof_diff.specs.Kept.{AreKept, totals_in}
use Rattle.hprof_diff.proofs.OfHeap.{kept_are_totals}
use Rattle.hprof_diff.proofs.label_counts.LabelCounts.of_rows.Goals as goal

pub returns : goal.returns
returns c = λ all whole histogram.
    let ids = size_of c.args.heap.now in
    let facts = facts_of c.args.heap.now in
    let parts = c.in_ok-parts.parts.items in
    of_text (AreKept facts c.deref.result.now) (λ counts. AreTotals ids all (totals_in counts)) c.of_parts.result
    (kept_are_totals ids facts all whole c.args.rows.now histogram parts c.deref.result.now
    (subst (λ (l : List LabelCount). IsPermutation parts l) (sym c.deref.ensures.value) c.sort_parts.ensures)
    c.in_ok-parts.ensures.labelled)
    c.of_parts.ensures
