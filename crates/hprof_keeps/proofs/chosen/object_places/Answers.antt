use Rattle.std.proofs.Common.{refl}
use Rattle.hprof_heap.specs.HeapFacts.{facts_of}
use Rattle.hprof_keeps.proofs.chosen.object_places.Goals as goal

pub returns-in-Ok : goal.returns-in-Ok
returns-in-Ok c =
    c.in-Ok.ensures.1 (facts_of c.args.heap.now)
    (record { same = refl; fit = c.holds_of_heap.ensures.fit; ordered = c.holds_of_heap.ensures.ordered })
