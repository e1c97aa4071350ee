-- Edges by fields that are left out. A table says which fields these are; why is for its maker to say.
use Rattle.std.specs.Prelude.{◌≡◌, ◌==◌, ℕ, Bool, List, Contains}
use Rattle.std.specs.List.{list_any}
use Rattle.hprof_items.specs.FactValue.{FactValue, Instance}
use Rattle.hprof_heap.specs.Objects.{HasInstance}
use Rattle.hprof_edges.specs.declared.edge.Via.TheVariants as vias
use Rattle.hprof_edges.specs.declared.edge.Edge.{Edge}
use Rattle.hprof_edges.specs.declared.field_place.FieldPlace.{FieldPlace}
use Rattle.hprof_edges.specs.declared.left_out.LeftOut.{LeftOut}

-- the edge is by one of these fields: it is from an instance of the field's class, by the field at its place
pub record IsLeftOut (fields : List FieldPlace) (facts : List FactValue) (edge : Edge) : Type 0 where
  pub via_is : edge.via ≡ vias.Field
  pub class : ℕ
  pub bytes : List ℕ
  pub instance : HasInstance facts edge.from class bytes
  pub there : Contains fields (record { class = class; place = edge.position })

-- it is by none of them
abbrev pub IsKept : List FieldPlace → List FactValue → Edge → Type 0
IsKept fields facts edge = ¬ IsLeftOut fields facts edge

-- the fields of a table
abbrev pub fields_in : LeftOut → List FieldPlace
fields_in left_out = left_out.fields.items

-- ---- one dump

-- an edge that the object dump gives is by one of these fields
abbrev pub IsLeftOutOf : List FieldPlace → FactValue → Edge → Type 0
IsLeftOutOf fields (Instance id trace class bytes) edge =
    (edge.via ≡ vias.Field) × Contains fields (record { class = class; place = edge.position })
IsLeftOutOf fields fact edge = ⊥

-- whether one of the fields of a class stands at that place
abbrev pub has_place : List FieldPlace → ℕ → Bool
has_place fields place = list_any (λ field. field.place == place) fields
