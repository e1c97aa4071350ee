use Rattle.hprof_values.specs.Lists.{identifiers_of}
use Rattle.hprof_graph.proofs.FactsMore.{array_added}
use Rattle.hprof_graph.proofs.derived.Derived.add_array.Goals as goal

pub returns-clause-adds : goal.returns-clause-adds
returns-clause-adds c = λ ids before facts trace adds is.
    array_added ids before facts c.args.array trace c.args.class (identifiers_of c.args.elements.now) adds c.args.self.now is
    c.array_edges.new.into (λ edges of. c.in_ok-array_edges.ensures.holds edges of)
