use Rattle.hprof_heap.specs.HeapFacts.{facts_of, size_of}
use Rattle.hprof_histogram.proofs.ObjectOrder.{sorted_are_objects}
use Rattle.hprof_histogram.proofs.objects.objects_of.Goals as goal

pub returns-in-Ok : goal.returns-in-Ok
returns-in-Ok g c =
    let ids = size_of c.args.heap.now in (
      c.in-Ok.ensures.0,
      λ all make.
          let chosen = c.in-Ok.ensures.1 all make in
          sorted_are_objects ids all c.args.kind c.in-Ok.found.items
          (g.met.O.Objects.whole c.args.objects.now ids (facts_of c.args.heap.now) all make).ordered chosen.sorted chosen.same,
    )
