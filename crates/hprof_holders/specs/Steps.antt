-- Edges in words.
use Rattle.std.specs.Prelude.{◌↔◌, ℕ, Bool, List, [], ◌++◌, Option, Some, None, IsTrue, codes, if◌then◌else◌}
use Rattle.std.specs.Fmt.{decimal}
use Rattle.hprof_values.specs.declared.ids.IdSize.{IdSize}
use Rattle.hprof_items.specs.FactValue.{FactValue}
use Rattle.hprof_edges.specs.declared.edge.Edge.{Edge}
use Rattle.hprof_edges.specs.Edges.{IsEdge}
use Rattle.hprof_weak.specs.Weak.{IsWeak}
use Rattle.hprof_naming.specs.Naming.{Naming}
use Rattle.hprof_reports.specs.PlaceNames.{IsPlaceName}
use Rattle.hprof_reports.specs.RefsText.{via_word}

-- of each edge the name of its place, and whether it is weak
pub record EdgeFindings : Type 0 where
  pub name : Edge → Option ℕ
  pub is_weak : Edge → Bool

-- so it is of the edges of these facts
pub record AreEdgeFindings (ids : IdSize) (facts : List FactValue) (edges : EdgeFindings) : Type 0 where
  pub names : (edge : Edge) → IsEdge ids facts edge → IsPlaceName facts edge.from edge.via edge.position (edges.name edge)
  pub weak : (edge : Edge) → IsEdge ids facts edge → IsTrue (edges.is_weak edge) ↔ IsWeak facts edge

-- behind the place its name, if it has one
abbrev pub name_behind : Naming → Option ℕ → List ℕ
name_behind naming (Some name) = codes " " ++ naming.name_text name
name_behind naming None = []

abbrev pub weak_word : Bool → List ℕ
weak_word is_weak = if is_weak then codes "weak " else []

-- by way of what it refers, at which place
unfoldable pub step_text : Naming → EdgeFindings → Edge → List ℕ
step_text naming edges edge = weak_word (edges.is_weak edge) ++ via_word edge.via ++ codes " " ++ decimal edge.position
    ++ name_behind naming (edges.name edge)

-- the same without the place
unfoldable pub step_kind : Naming → EdgeFindings → Edge → List ℕ
step_kind naming edges edge = weak_word (edges.is_weak edge) ++ via_word edge.via ++ name_behind naming (edges.name edge)
