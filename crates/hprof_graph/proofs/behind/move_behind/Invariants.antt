use Rattle.std.specs.Prelude.{◌≢◌}
use Rattle.std.specs.List.Sorted.{IsPermutation}
use Rattle.std.proofs.Common.{◌≡◌, ℕ, ◌-◌, ◌<◌, ◌≤◌, get_or, vec_len}
use Rattle.hprof_edges.specs.declared.edge.Edge.{Edge}
use Rattle.hprof_graph.proofs.behind.move_behind.Given as goal

abbrev pub invariant-loop-others : goal.invariant-loop-others
invariant-loop-others l = record {
  up_to : l.others ≤ l.end;
  within : l.end ≤ vec_len l.edges;
  moved : IsPermutation l.fn.edges.items l.edges.items;
  others : (place : ℕ) (d : Edge) → place < l.others → (get_or l.edges.items place d).to ≢ l.id;
  behind : (place : ℕ) (d : Edge) → l.end ≤ place → place < vec_len l.edges → (get_or l.edges.items place d).to ≡ l.id;
}

abbrev pub decreases-loop-others : goal.decreases-loop-others
decreases-loop-others l = l.end - l.others
