use Rattle.std.proofs.Common.{sym, subst}
use Rattle.hprof_heap.specs.HeapFacts.{facts_of, size_of}
use Rattle.hprof_histogram.specs.Histogram.{IsHistogram}
use Rattle.hprof_meaning.proofs.gathering.all_classes.Goals as goal

pub returns-in-Ok-clause-all : goal.returns-in-Ok-clause-all
returns-in-Ok-clause-all g c =
    let ids = size_of c.args.heap.now in (
      c.in_ok-rows.ensures.0,
      λ all make. c.in-Ok.ensures.all all (g.met.O.Objects.whole c.args.objects.now ids (facts_of c.args.heap.now) all make)
          (subst (IsHistogram ids all) (sym c.deref.ensures.value) (c.in_ok-rows.ensures.1 all (make, tt))),
    )
