-- Edges by a field of a class; the laws speak of them.
use Rattle.std.specs.Prelude.{◌≡◌, ℕ, List}
use Rattle.hprof_items.specs.FactValue.{FactValue}
use Rattle.hprof_heap.specs.Objects.{HasInstance}
use Rattle.hprof_edges.specs.declared.edge.Via.TheVariants as vias
use Rattle.hprof_edges.specs.declared.edge.Edge.{Edge}
use Rattle.hprof_edges.specs.declared.field_place.FieldPlace.{FieldPlace}

-- the edge is by the field at that place, of an instance of that class
pub record IsByField (facts : List FactValue) (field : FieldPlace) (edge : Edge) : Type 0 where
  pub via_is : edge.via ≡ vias.Field
  pub place_is : edge.position ≡ field.place
  pub bytes : List ℕ
  pub instance : HasInstance facts edge.from field.class bytes
