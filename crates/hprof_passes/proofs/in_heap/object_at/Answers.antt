use Rattle.hprof_heap.specs.HeapFacts.{facts_of, size_of}
use Rattle.hprof_passes.proofs.PickedObjects.{found_picked}
use Rattle.hprof_passes.proofs.in_heap.object_at.Goals as goal

pub returns-clause-value : goal.returns-clause-value
unfolding facts_of
returns-clause-value c =
    found_picked c.args.id (facts_of c.args.heap.now) c.id_size.ensures.ordered _ c.object_near.ensures.value

pub returns-clause-lists : goal.returns-clause-lists
unfolding size_of
returns-clause-lists c = c.object_near.ensures.lists
