use Rattle.std.specs.Prelude.{◌↔◌, Contains}
use Rattle.std.proofs.Common.{◌≡◌, ℕ, List, sym, subst}
use Rattle.hprof_edges.specs.LeftOut.{IsKept}
use Rattle.hprof_numbers.specs.Numbers.{items_in}
use Rattle.hprof_reach.specs.NumberedGraph.{node_at}
use Rattle.hprof_reach.proofs.NumberedWalks.{reached_by_numbers}
use Rattle.hprof_reach.proofs.by_passes.reach_in.Goals as goal

pub search_numbered-requires : goal.search_numbered-requires
search_numbered-requires c = record { stands = record { as_many = c.requires.as_many; within = c.requires.leads } }

pub returns : goal.returns
returns c = λ fields ids facts is.
    let graph = c.args.graph in
    reached_by_numbers (IsKept fields facts) ids facts graph is c.deref.result.now
    (subst
    (λ (l : List ℕ). (id : ℕ) → Contains l id ↔ ((number : ℕ) × Contains (items_in graph.starts) number × (node_at graph number ≡ id)))
    (sym c.deref.ensures.value) c.in_ok-starts.ensures)
    c.in_ok-search.search c.in_ok-search.ensures
