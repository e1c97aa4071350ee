-- The edges that one dump gives, of a class or of an object.
use Rattle.std.specs.Prelude.{◌≡◌, ◌≢◌, ◌⊎◌, ℕ, List, Some, slice_get}
use Rattle.hprof_values.specs.declared.ids.IdSize.{IdSize}
use Rattle.hprof_items.specs.FactValue.{FactValue, Instance, ObjArray}
use Rattle.hprof_rows.specs.Facts.{Has}
use Rattle.hprof_heap.specs.Classes.{ClassValue, HasDump}
use Rattle.hprof_heap.specs.Objects.{HasInstance}
use Rattle.hprof_layouts.specs.References.{HasReference}
use Rattle.hprof_edges.specs.declared.edge.Via.{Via}
use Rattle.hprof_edges.specs.declared.edge.Via.TheVariants as vias
use Rattle.hprof_edges.specs.declared.edge.Edge.{Edge}
use Rattle.hprof_edges.specs.Edges.{EntryRefers}

-- ---- a class dump

-- by way of that, at that place, the dump refers to it
abbrev pub ClassRefers : ClassValue → Via → ℕ → ℕ → Type 0
ClassRefers dump vias.Class position to = ⊥
ClassRefers dump vias.Parent position to = (position ≡ 0) × (dump.parent ≡ to)
ClassRefers dump vias.Loader position to = (position ≡ 0) × (dump.loader ≡ to)
ClassRefers dump vias.Signers position to = (position ≡ 0) × (dump.signers ≡ to)
ClassRefers dump vias.Domain position to = (position ≡ 0) × (dump.domain ≡ to)
ClassRefers dump vias.Constant position to = EntryRefers dump.constants position to
ClassRefers dump vias.Static position to = EntryRefers dump.statics position to
ClassRefers dump vias.Field position to = ⊥
ClassRefers dump vias.Element position to = ⊥

-- the class dump gives the edge
pub record IsClassEdge (dump : ClassValue) (edge : Edge) : Type 0 where
  pub not_zero : edge.to ≢ 0
  pub from_is : edge.from ≡ dump.id
  pub refers_is : ClassRefers dump edge.via edge.position edge.to

-- ---- an object dump

-- it leads from an instance or an array of objects to its class
pub record IsEdgeToClass (object class : ℕ) (edge : Edge) : Type 0 where
  pub not_zero : edge.to ≢ 0
  pub from_is : edge.from ≡ object
  pub via_is : edge.via ≡ vias.Class
  pub position_is : edge.position ≡ 0
  pub to_is : class ≡ edge.to

-- a field of an instance of the class that has these bytes gives it
pub record IsFieldEdge (ids : IdSize) (facts : List FactValue) (object class : ℕ) (bytes : List ℕ) (edge : Edge) : Type 0 where
  pub not_zero : edge.to ≢ 0
  pub from_is : edge.from ≡ object
  pub via_is : edge.via ≡ vias.Field
  pub reference : HasReference ids facts class bytes (record { place = edge.position; to = edge.to })

-- an element of an array of objects gives it
pub record IsElementEdge (object : ℕ) (elements : List ℕ) (edge : Edge) : Type 0 where
  pub not_zero : edge.to ≢ 0
  pub from_is : edge.from ≡ object
  pub via_is : edge.via ≡ vias.Element
  pub there : slice_get elements edge.position ≡ Some edge.to

-- the object dump gives the edge, where these are the facts; other facts are no object dumps, and arrays of numbers refer to nothing
abbrev pub IsObjectEdge : IdSize → List FactValue → FactValue → Edge → Type 0
IsObjectEdge ids facts (Instance id trace class bytes) edge = IsEdgeToClass id class edge ⊎ IsFieldEdge ids facts id class bytes edge
IsObjectEdge ids facts (ObjArray id trace class elements) edge = IsEdgeToClass id class edge ⊎ IsElementEdge id elements edge
IsObjectEdge ids facts fact edge = ⊥

-- ---- all dumps

-- one of the class dumps gives it
pub record GivenByClass (facts : List FactValue) (edge : Edge) : Type 0 where
  pub dump : ClassValue
  pub has : HasDump facts dump
  pub edge_is : IsClassEdge dump edge

-- one of the object dumps gives it
pub record GivenByObject (ids : IdSize) (facts : List FactValue) (edge : Edge) : Type 0 where
  pub fact : FactValue
  pub has : Has facts fact
  pub edge_is : IsObjectEdge ids facts fact edge

-- a field of the instance gives it
pub record GivenByInstance (ids : IdSize) (facts : List FactValue) (object : ℕ) (edge : Edge) : Type 0 where
  pub class : ℕ
  pub bytes : List ℕ
  pub instance : HasInstance facts object class bytes
  pub edge_is : IsFieldEdge ids facts object class bytes edge
