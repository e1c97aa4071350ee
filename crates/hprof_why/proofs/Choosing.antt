-- Choices of edges, and what they have in common.
use Rattle.std.specs.Prelude.{◌↔◌}
use Rattle.std.proofs.Common.{◌≡◌, ℕ, List, [], Option, Some, None, sym, ◌∙◌}
use Rattle.hprof_values.specs.declared.ids.IdSize.{IdSize}
use Rattle.hprof_items.specs.FactValue.{FactValue}
use Rattle.hprof_edges.specs.declared.edge.Edge.{Edge}
use Rattle.hprof_edges.specs.declared.field_place.FieldPlace.{FieldPlace}
use Rattle.hprof_edges.specs.Edges.{AnyEdge, IsEdge}
use Rattle.hprof_edges.specs.LeastEdge.{IsLeastEdgeBy}
use Rattle.hprof_edges.specs.LeftOut.{IsKept, IsLeftOut}
use Rattle.hprof_edges.proofs.PutTogether.{nothing_there}
use Rattle.hprof_reach.specs.declared.reach.Reach.{Reach}
use Rattle.hprof_reach.specs.Reaching.{IsReach, IsReachBy}
use Rattle.hprof_reach.proofs.Choices.{same_distance, same_path, same_reach}
use Rattle.hprof_reports.specs.OnePlace.{least_once}
use Rattle.hprof_weak.specs.Weak.{IsStrong, IsWeak}
use Rattle.hprof_why.specs.declared.path.Path.{Path}
use Rattle.hprof_why.specs.Paths.{IsPathTo}

-- without fields all edges are kept
pub all_kept : (ids : IdSize) (facts : List FactValue) (edge : Edge) → IsEdge ids facts edge → IsKept [] facts edge ↔ AnyEdge edge
all_kept ids facts edge is = (λ kept. tt, λ any out. nothing_there _ out.there)

pub kept_all : (ids : IdSize) (facts : List FactValue) (edge : Edge) → IsEdge ids facts edge → AnyEdge edge ↔ IsKept [] facts edge
kept_all ids facts edge is = (λ any out. nothing_there _ out.there, λ kept. tt)

-- a search by all edges is one without the edges by no fields
pub reach_kept : (ids : IdSize) (facts : List FactValue) (reach : Reach) → IsReach ids facts reach
    → IsReachBy (IsKept [] facts) ids facts reach
reach_kept ids facts reach is = same_reach AnyEdge (IsKept [] facts) ids facts (kept_all ids facts) reach is

-- the strong edges are those that are kept without the weak fields
pub strong_kept : (ids : IdSize) (facts : List FactValue) (fields : List FieldPlace)
    → ((edge : Edge) → IsEdge ids facts edge → IsLeftOut fields facts edge ↔ IsWeak facts edge)
    → (edge : Edge) → IsEdge ids facts edge → IsKept fields facts edge ↔ IsStrong facts edge
strong_kept ids facts fields weak edge is = (λ kept told. kept ((weak edge is).1 told), λ strong out. strong ((weak edge is).0 out))

-- what is a path by the ones is one by the others
pub path_same : (P Q : Edge → Type 0) (ids : IdSize) (facts : List FactValue)
    → ((edge : Edge) → IsEdge ids facts edge → P edge ↔ Q edge) → (id : ℕ) (path : Option Path) → IsPathTo P ids facts id path
    → IsPathTo Q ids facts id path
path_same P Q ids facts same id (Some path) is = (
  same_distance P Q ids facts same id (Some path.distance) is.0,
  same_path P Q ids facts same id (Some path.nodes.items) is.1,
)
path_same P Q ids facts same id None none = same_distance P Q ids facts same id None none

-- the least edge that was found is the least edge
pub least_is : (P : Edge → Type 0) (ids : IdSize) (facts : List FactValue) (from to : ℕ) (found : Option Edge) (one edge : Edge)
    → IsLeastEdgeBy P ids facts from to found → found ≡ Some one → IsLeastEdgeBy P ids facts from to (Some edge) → one ≡ edge
least_is P ids facts from to found one edge is was least =
    let same : Some one ≡ Some edge = sym was ∙ least_once _ found (Some edge) is least in cc
