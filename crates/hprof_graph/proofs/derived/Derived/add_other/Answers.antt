use Rattle.hprof_items.specs.FactValue.{value_of}
use Rattle.hprof_heap.specs.HeapFacts.{facts_of, size_of}
use Rattle.hprof_graph.proofs.FactsMore.{neither, nothing_added}
use Rattle.hprof_graph.proofs.derived.Derived.add_other.Goals as goal

pub returns-in_default-clause-adds : goal.returns-in_default-clause-adds
returns-in_default-clause-adds c = λ before adds is.
    nothing_added (size_of c.args.heap.now) before (value_of c.args.fact.now) (facts_of c.args.heap.now) adds c.args.self.now
    (neither c.args.fact.now c.in_default.ensures.none c.requires) is
