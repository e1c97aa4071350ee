use Rattle.std.proofs.Common.{sym, subst}
use Rattle.hprof_items.specs.declared.fact.Fact.{Fact}
use Rattle.hprof_items.specs.FactValue.{value_of}
use Rattle.hprof_graph.proofs.FactsMore.{NothingToDerive, nothing_added}
use Rattle.hprof_graph.proofs.live_heap.LiveHeap.derive.Goals as goal

pub returns-in-PrimArray-clause-derives : goal.returns-in-PrimArray-clause-derives
returns-in-PrimArray-clause-derives c = λ before heap outcome adds is.
    nothing_added heap.ids before (value_of c.args.fact.now) heap.facts adds c.args.self.now.derived
    (subst (λ (fact : Fact). NothingToDerive (value_of fact)) (sym c.in-PrimArray.is) tt) is
