use Rattle.hprof_graph.proofs.KeptReferrers.{index_of}
use Rattle.hprof_graph.proofs.derived.Derived.into_index.Goals as goal

pub returns : goal.returns
returns c = λ ids facts is.
    index_of ids facts c.args.self is (record { edges = c.sort_by_target.new.edges }) c.sort_by_target.ensures.sorted
    c.sort_by_target.ensures.same
