-- Edges in any order.
use Rattle.std.specs.Prelude.{◌≡◌, ◌↔◌, true, List, filter, Contains}
use Rattle.std.proofs.Common.{sym, subst}
use Rattle.hprof_edges.specs.declared.edge.Edge.{Edge}
use Rattle.hprof_layouts.specs.declared.reference.Wanted.{Wanted}
use Rattle.hprof_edges.specs.Collecting.{is_edge_wanted}
use Rattle.hprof_edges.specs.KeptMembers.{kept_are}
use Rattle.hprof_edges.specs.declared.edge_set.EdgeSet.{EdgeSet}

-- which references it wants; the edges that it has
abbrev pub wanted_in : EdgeSet → Wanted
wanted_in set = set.wanted

abbrev pub edges_in : EdgeSet → List Edge
edges_in set = set.edges.items

-- the set was given these edges, and has those of them that are wanted
abbrev pub SetOf : EdgeSet → List Edge → Type 0
SetOf set edges = (edge : Edge) → Contains (edges_in set) edge ↔ (Contains edges edge × (is_edge_wanted (wanted_in set) edge ≡ true))

-- lists that have the same edges that are wanted
pub set_alike : (set : EdgeSet) (one other : List Edge)
    → filter (is_edge_wanted (wanted_in set)) one ≡ filter (is_edge_wanted (wanted_in set)) other → SetOf set one → SetOf set other
set_alike set one other same of edge =
    let wanted = is_edge_wanted (wanted_in set) in
    let first = kept_are wanted one edge in
    let second = kept_are wanted other edge in (
      λ there. second.0 (subst (λ (l : List Edge). Contains l edge) same (first.1 ((of edge).0 there))),
      λ both. (of edge).1 (first.0 (subst (λ (l : List Edge). Contains l edge) (sym same) (second.1 both))),
    )
