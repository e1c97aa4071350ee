use Rattle.hprof_heap.specs.HeapFacts.{facts_of, size_of}
use Rattle.hprof_histogram.proofs.making.histogram_over.Goals as goal

pub returns-in-Ok : goal.returns-in-Ok
returns-in-Ok g c =
    let ids = size_of c.args.heap.now in (
      c.in_ok-tally.ensures.0,
      λ all made. c.in-Ok.ensures ids all
          (g.met.O.Objects.whole c.args.objects.now ids (facts_of c.args.heap.now) all made.0).fit (c.in_ok-tally.ensures.1 all made),
    )
