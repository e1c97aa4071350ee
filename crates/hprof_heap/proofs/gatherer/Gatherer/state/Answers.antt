use Rattle.std.proofs.Common.{refl, ap}
use Rattle.hprof_items.specs.FactValue.{value_of}
use Rattle.hprof_heap.specs.Heap.{heap_of}
use Rattle.hprof_heap.specs.Gathering.{lent_heap}
use Rattle.hprof_heap.proofs.Steady.{states_ids, steady_after}
use Rattle.hprof_heap.proofs.gatherer.Gatherer.state.Goals as goal

pub invariant_of-self : goal.invariant_of-self
invariant_of-self c = record {
  steady = steady_after c.args.self.now.heap c.in-Some.heap c.state.new.self c.args.self.now.begun c.args.self.now.two_sizes
      c.args.self.now.steady c.in-Some.is
      (states_ids c.state.result (heap_of c.in-Some.heap) (heap_of c.state.new.self) (value_of c.args.fact.now) c.state.ensures.ok
      c.state.ensures.err);
}

-- want of memory comes only for a fact that is new to the heap
pub returns-in_default-state-clause-err : goal.returns-in_default-state-clause-err
returns-in_default-state-clause-err c =
    (λ sound. (refl, (c.if-self-2.false, (heap_of c.in-Some.heap, ap lent_heap c.in-Some.is, c.in_default-state.ensures.absent))), refl)
