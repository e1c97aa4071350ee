-- The edges of a heap by numbers, as far as its objects were given; no public contract speaks of it.
use Rattle.std.specs.Prelude.{◌≡◌, ◌<◌, ◌↔◌, ◌⊎◌, ℕ, List, Contains, length, slice_index}
use Rattle.hprof_values.specs.declared.ids.IdSize.{IdSize}
use Rattle.hprof_items.specs.FactValue.{FactValue}
use Rattle.hprof_rows.specs.Facts.{Has}
use Rattle.hprof_edges.specs.declared.edge.Edge.{Edge}
use Rattle.hprof_edges.specs.declared.field_place.FieldPlace.{FieldPlace}
use Rattle.hprof_edges.specs.DumpEdges.{GivenByClass, IsObjectEdge}
use Rattle.hprof_edges.specs.LeftOut.{IsLeftOutOf}
use Rattle.hprof_numbers.specs.Lists.{IsListed, count_in}
use Rattle.hprof_numbers.specs.declared.lists.Lists.{Lists}

-- ---- what leads where

-- an edge of which that holds leads from the one identifier to the other
pub record LeadsAs (P : Edge → Type 0) (from to : ℕ) : Type 0 where
  pub edge : Edge
  pub holds : P edge
  pub from_is : edge.from ≡ from
  pub to_is : edge.to ≡ to

-- an edge that a class dump gives
abbrev pub LeadsByClass : List FactValue → ℕ → ℕ → Type 0
LeadsByClass facts from to = LeadsAs (GivenByClass facts) from to

-- the object dump gives the edge, which is by none of the fields
abbrev pub IsKeptOf : IdSize → List FactValue → List FieldPlace → FactValue → Edge → Type 0
IsKeptOf ids facts fields object edge = IsObjectEdge ids facts object edge × ¬ IsLeftOutOf fields object edge

-- an edge that one of the objects gives
pub record LeadsByObjects (ids : IdSize) (facts : List FactValue) (fields : List FieldPlace) (objects : List FactValue) (from to : ℕ)
    : Type 0 where
  pub object : FactValue
  pub has : Has objects object
  pub leads : LeadsAs (IsKeptOf ids facts fields object) from to

-- ---- what is made of it

-- the first nodes have their lists, the targets are what objects lead to from the next node, and they lead nowhere from those behind it
pub record AreMade (nodes : List ℕ) (ByClass ByObjects : ℕ → ℕ → Type 0) (lists : Lists) (targets : List ℕ) : Type 0 where
  pub ended : (from to : ℕ) → from < count_in lists → IsListed lists from to
      ↔ ((to < length nodes) × (ByClass (slice_index nodes from) (slice_index nodes to)
      ⊎ ByObjects (slice_index nodes from) (slice_index nodes to)))
  pub next : count_in lists < length nodes → (to : ℕ) → Contains targets to ↔ ByObjects (slice_index nodes (count_in lists)) to
  pub later : (number to : ℕ) → count_in lists < number → number < length nodes → ByObjects (slice_index nodes number) to → ⊥
