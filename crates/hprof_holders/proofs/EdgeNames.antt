-- Of an edge there is one name, and it is weak or not.
use Rattle.std.specs.Prelude.{◌↔◌}
use Rattle.std.proofs.Common.{◌≡◌, ℕ, Bool, true, List, Option}
use Rattle.std.specs.Bool.{one_answer}
use Rattle.hprof_values.specs.declared.ids.IdSize.{IdSize}
use Rattle.hprof_items.specs.FactValue.{FactValue}
use Rattle.hprof_rows.specs.Conflict.{IsConsistent}
use Rattle.hprof_edges.specs.declared.edge.Edge.{Edge}
use Rattle.hprof_edges.specs.Edges.{IsEdge}
use Rattle.hprof_reports.specs.OnePlace.{place_once}
use Rattle.hprof_reports.specs.PlaceNames.{IsPlaceName}
use Rattle.hprof_weak.specs.Weak.{IsWeak}
use Rattle.hprof_holders.specs.Steps.{AreEdgeFindings, EdgeFindings}

module _ (facts : List FactValue) (agree : IsConsistent facts) where
  module _ (ids : IdSize) (edges : EdgeFindings) (are : AreEdgeFindings ids facts edges) (edge : Edge) (is : IsEdge ids facts edge) where
    -- the name that is found is the name of the edge
    pub name_found : (name : Option ℕ) → IsPlaceName facts edge.from edge.via edge.position name → name ≡ edges.name edge
    name_found name named = place_once facts agree edge.from edge.via edge.position name (edges.name edge) named (are.names edge is)

    pub weak_found : (is_weak : Bool) → (is_weak ≡ true) ↔ IsWeak facts edge → is_weak ≡ edges.is_weak edge
    weak_found is_weak told = one_answer is_weak (edges.is_weak edge) told (are.weak edge is)
