-- The least of edges, told by those alone that lead to the identifier.
use Rattle.std.specs.Prelude.{◌≡◌, List, Option, Some, None, filter, Contains}
use Rattle.std.proofs.Common.{sym, subst}
use Rattle.hprof_edges.specs.declared.edge.Edge.{Edge}
use Rattle.hprof_edges.specs.declared.least.LeastEdge.{LeastEdge}
use Rattle.hprof_edges.specs.KeptMembers.{kept_are}
use Rattle.hprof_edges.specs.LeastEdge.{IsLeastOf, IsOneTo, KeepsLeast, leads_to}

module _ (least : LeastEdge) where
  -- lists that have the same edges that lead there have the same members that do
  same_members : (one other : List Edge) → filter (leads_to least) one ≡ filter (leads_to least) other → (edge : Edge)
      → IsOneTo least one edge → IsOneTo least other edge
  same_members one other same edge is =
      (kept_are (leads_to least) other edge).0 (subst (λ (l : List Edge). Contains l edge) same ((kept_are (leads_to least) one edge).1 is))

  same_least : (one other : List Edge) → filter (leads_to least) one ≡ filter (leads_to least) other → (found : Option Edge)
      → IsLeastOf (IsOneTo least one) found → IsLeastOf (IsOneTo least other) found
  same_least one other same (Some edge) is =
      (same_members one other same edge is.0, λ more has. is.1 more (same_members other one (sym same) more has))
  same_least one other same None none = λ edge has. none edge (same_members other one (sym same) edge has)

  pub least_alike : (one other : List Edge) → filter (leads_to least) one ≡ filter (leads_to least) other → KeepsLeast least one
      → KeepsLeast least other
  least_alike one other same = same_least one other same least.edge
