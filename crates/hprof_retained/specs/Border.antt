-- Where weak references may lead on from what strong references reach; no public contract speaks of it.
use Rattle.std.specs.Prelude.{◌≡◌, ◌≢◌, ◌==◌, ◌↔◌, ℕ, Bool, List, Contains, IsTrue}
use Rattle.std.specs.List.{list_any}
use Rattle.hprof_values.specs.declared.ids.IdSize.{IdSize}
use Rattle.hprof_items.specs.FactValue.{FactValue, Instance}
use Rattle.hprof_rows.specs.Facts.{Has}
use Rattle.hprof_heap.specs.Objects.{IsObject}
use Rattle.hprof_edges.specs.declared.field_place.FieldPlace.{FieldPlace}
use Rattle.hprof_edges.specs.LeftOut.{IsKept}
use Rattle.hprof_reach.specs.Reaching.{IsNode, LeadsBy}
use Rattle.hprof_search.specs.Walks.{Reaches}
use Rattle.hprof_retained.specs.Tree.{place_of}
use Rattle.hprof_retained.specs.declared.retained.Retained.{Retained}

-- one of the fields is of the class
abbrev pub has_class : List FieldPlace → ℕ → Bool
has_class fields class = list_any (λ field. field.class == class) fields

-- the fact is the dump of an instance of such a class
abbrev pub IsOfClasses : List FieldPlace → FactValue → Type 0
IsOfClasses fields (Instance id trace class bytes) = IsTrue (has_class fields class)
IsOfClasses fields fact = ⊥

-- the fact is a dump of an object that is a node and has no place
abbrev pub IsOutside : Retained → FactValue → ℕ → Type 0
IsOutside retained fact node = ((node ≢ 0) × IsObject node fact) × (place_of retained node ≡ 0)

-- the fact is a dump of an instance of such a class that has a place
abbrev pub IsOnBorder : List FieldPlace → Retained → FactValue → ℕ → Type 0
IsOnBorder fields retained fact node = (IsObject node fact × IsOfClasses fields fact) × (place_of retained node ≢ 0)

-- an object dump among the facts is one
abbrev pub IsBorderNode : List FieldPlace → Retained → List FactValue → ℕ → Type 0
IsBorderNode fields retained facts node = (fact : FactValue) × Has facts fact × IsOnBorder fields retained fact node

-- the nodes that have no place, and the instances of classes with weak fields that have one
pub record AreAround (facts : List FactValue) (fields : List FieldPlace) (retained : Retained) (outside inside : List ℕ) : Type 0 where
  pub others : (node : ℕ) → Contains outside node ↔ (IsNode facts node × (place_of retained node ≡ 0))
  pub sources : (node : ℕ) → Contains inside node ↔ IsBorderNode fields retained facts node

-- ---- a search from some nodes on, over these and others

pub record Crossing : Type 0 where
  pub ids : IdSize
  pub facts : List FactValue
  pub fields : List FieldPlace
  pub nodes : List ℕ
  pub sources : List ℕ

abbrev pub crossing_of : IdSize → List FactValue → List FieldPlace → List ℕ → List ℕ → Crossing
crossing_of ids facts kept all sources = record { ids = ids; facts = facts; fields = kept; nodes = all; sources = sources }

abbrev pub starts_of : Crossing → ℕ → Type 0
starts_of crossing node = Contains crossing.nodes node × Contains crossing.sources node

abbrev pub steps_of : Crossing → ℕ → ℕ → Type 0
steps_of crossing from to =
    LeadsBy (IsKept crossing.fields crossing.facts) crossing.ids crossing.facts from to × Contains crossing.nodes to

abbrev pub IsCrossedTo : Crossing → ℕ → Type 0
IsCrossedTo crossing node = (count : ℕ) × Reaches (starts_of crossing) (steps_of crossing) count node
