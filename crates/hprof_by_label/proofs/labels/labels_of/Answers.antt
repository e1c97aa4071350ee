use Rattle.std.proofs.Common.{refl}
use Rattle.hprof_heap.specs.HeapFacts.{facts_of}
use Rattle.hprof_by_label.proofs.labels.labels_of.Goals as goal

pub returns-in-Ok-clause-labels : goal.returns-in-Ok-clause-labels
returns-in-Ok-clause-labels c =
    (c.in-Ok.ensures.labels.1 (facts_of c.args.heap.now)
    (record { same = refl; fit = c.holds_of_heap.ensures.fit; ordered = c.holds_of_heap.ensures.ordered })).0

pub returns-in-Ok-clause-sizes : goal.returns-in-Ok-clause-sizes
returns-in-Ok-clause-sizes c =
    (c.in-Ok.ensures.labels.1 (facts_of c.args.heap.now)
    (record { same = refl; fit = c.holds_of_heap.ensures.fit; ordered = c.holds_of_heap.ensures.ordered })).1
