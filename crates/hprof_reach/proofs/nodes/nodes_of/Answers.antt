use Rattle.std.proofs.Common.{refl}
use Rattle.hprof_heap.specs.HeapFacts.{facts_of}
use Rattle.hprof_reach.proofs.nodes.nodes_of.Goals as goal

pub returns-in-Ok-clause-all : goal.returns-in-Ok-clause-all
returns-in-Ok-clause-all c =
    c.in-Ok.ensures.all.1 (facts_of c.args.heap.now)
    (record { same = refl; fit = c.holds_of_heap.ensures.fit; ordered = c.holds_of_heap.ensures.ordered })
