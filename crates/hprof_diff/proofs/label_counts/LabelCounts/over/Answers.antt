use Rattle.std.proofs.Common.{sym, subst}
use Rattle.hprof_heap.specs.HeapFacts.{facts_of, size_of}
use Rattle.hprof_histogram.specs.Histogram.{IsHistogram}
use Rattle.hprof_diff.proofs.label_counts.LabelCounts.over.Goals as goal

pub returns-in-Ok-of_rows : goal.returns-in-Ok-of_rows
returns-in-Ok-of_rows g c =
    let ids = size_of c.args.heap.now in (
      c.in-Ok.ensures.0,
      λ all made. c.in-Ok-of_rows.ensures all (g.met.O.Objects.whole c.args.objects.now ids (facts_of c.args.heap.now) all made.0)
          (subst (IsHistogram ids all) (sym c.deref.ensures.value) (c.in-Ok.ensures.1 all made)),
    )
