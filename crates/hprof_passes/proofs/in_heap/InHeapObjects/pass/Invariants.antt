use Rattle.std.proofs.Common.{◌≡◌, length}
use Rattle.hprof_rows.specs.FactsLeft.{facts_ids, facts_left}
use Rattle.hprof_heap.specs.HeapFacts.{facts_of}
use Rattle.hprof_passes.specs.Passing.{objects_among}
use Rattle.hprof_passes.proofs.GoingOver.{GoesOver}
use Rattle.hprof_passes.proofs.in_heap.InHeapObjects.pass.Given as goal

abbrev pub invariant-loop-facts : goal.invariant-loop-facts
invariant-loop-facts g l = record {
  over : GoesOver g.T.ObjectSink.takes l.ids (objects_among (facts_of l.heap)) l.fn.sink l.sink (facts_left l.facts);
  ids : facts_ids l.facts ≡ l.ids;
}

abbrev pub decreases-loop-facts : goal.decreases-loop-facts
decreases-loop-facts g l = length (facts_left l.facts)
