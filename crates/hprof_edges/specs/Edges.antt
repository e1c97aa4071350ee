-- References between classes and objects, by what refers: heapDumper.cpp, "HPROF binary format". Each clause names the sub-record
-- that has the reference, and its field.
use Rattle.std.specs.Prelude.{◌≡◌, ◌≢◌, ◌⊎◌, ◌↔◌, ⊤, ℕ, List, Some, slice_get, true, Contains}
use Rattle.std.specs.List.Sorted.{IsStrictlySortedBy}
use Rattle.hprof_values.specs.declared.ids.IdSize.{IdSize}
use Rattle.hprof_values.specs.declared.entry.Entry.{Entry}
use Rattle.hprof_items.specs.FactValue.{FactValue}
use Rattle.hprof_heap.specs.Classes.{ClassValue, HasDump}
use Rattle.hprof_heap.specs.Objects.{HasInstance, HasElements}
use Rattle.hprof_layouts.specs.References.{HasReference}
use Rattle.hprof_layouts.specs.Refers.{refers}
use Rattle.hprof_edges.specs.declared.edge.Via.{Via}
use Rattle.hprof_edges.specs.declared.edge.Via.TheVariants as vias
use Rattle.hprof_edges.specs.declared.edge.Edge.{Edge}
use Rattle.hprof_edges.specs.contracts.edge.EdgeOrd.TheImpl as edge_ord

-- an instance or an array of objects is of that class
abbrev pub HasClass : List FactValue → ℕ → ℕ → Type 0
HasClass facts object class = ((bytes : List ℕ) × HasInstance facts object class bytes)
    ⊎ ((elements : List ℕ) × HasElements facts object class elements)

-- the class has a dump, of which that holds
pub record OfDump (facts : List FactValue) (class : ℕ) (P : ClassValue → Type 0) : Type 0 where
  pub dump : ClassValue
  pub has : HasDump facts dump
  pub id : dump.id ≡ class
  pub holds : P dump

-- the value of the entry at that place of the list is an identifier, and refers there
pub record EntryRefers (entries : List Entry) (position to : ℕ) : Type 0 where
  pub entry : Entry
  pub there : slice_get entries position ≡ Some entry
  pub refers_is : refers entry.basic ≡ true
  pub to_is : entry.bits ≡ to

-- the field at that place of the layout refers there; the layout of the class is known, and the bytes have its width
pub record FieldRefers (ids : IdSize) (facts : List FactValue) (object position to : ℕ) : Type 0 where
  pub class : ℕ
  pub bytes : List ℕ
  pub instance : HasInstance facts object class bytes
  pub reference : HasReference ids facts class bytes (record { place = position; to = to })

-- the element at that place of the array is that
pub record ElementRefers (facts : List FactValue) (object position to : ℕ) : Type 0 where
  pub class : ℕ
  pub elements : List ℕ
  pub array : HasElements facts object class elements
  pub there : slice_get elements position ≡ Some to

-- from there, by way of that, at that place, the facts refer to it. Reserved identifiers refer to nothing
abbrev pub Refers : IdSize → List FactValue → ℕ → Via → ℕ → ℕ → Type 0
-- HPROF_GC_INSTANCE_DUMP, class object ID; HPROF_GC_OBJ_ARRAY_DUMP, array class object ID
Refers ids facts from vias.Class position to = (position ≡ 0) × HasClass facts from to
-- HPROF_GC_CLASS_DUMP, super class object ID; class loader object ID; signers object ID; protection domain object ID
Refers ids facts from vias.Parent position to = (position ≡ 0) × OfDump facts from (λ dump. dump.parent ≡ to)
Refers ids facts from vias.Loader position to = (position ≡ 0) × OfDump facts from (λ dump. dump.loader ≡ to)
Refers ids facts from vias.Signers position to = (position ≡ 0) × OfDump facts from (λ dump. dump.signers ≡ to)
Refers ids facts from vias.Domain position to = (position ≡ 0) × OfDump facts from (λ dump. dump.domain ≡ to)
-- HPROF_GC_CLASS_DUMP, the values of the constant pool, and of the static fields
Refers ids facts from vias.Constant position to = OfDump facts from (λ dump. EntryRefers dump.constants position to)
Refers ids facts from vias.Static position to = OfDump facts from (λ dump. EntryRefers dump.statics position to)
-- HPROF_GC_INSTANCE_DUMP, instance field values
Refers ids facts from vias.Field position to = FieldRefers ids facts from position to
-- HPROF_GC_OBJ_ARRAY_DUMP, elements
Refers ids facts from vias.Element position to = ElementRefers facts from position to

-- an edge refers to something: 0 is no identifier of anything
abbrev pub IsEdge : IdSize → List FactValue → Edge → Type 0
IsEdge ids facts edge = (edge.to ≢ 0) × Refers ids facts edge.from edge.via edge.position edge.to

-- every edge
abbrev pub AnyEdge : Edge → Type 0
AnyEdge edge = ⊤

-- the list ascends by from, via, position, to, and has exactly the edges of which that holds
pub record AreEdges (ids : IdSize) (facts : List FactValue) (P : Edge → Type 0) (edges : List Edge) : Type 0 where
  pub ascend : IsStrictlySortedBy (edge_ord.ghosts).cmp edges
  pub exact : (edge : Edge) → Contains edges edge ↔ (IsEdge ids facts edge × P edge)

-- all edges from there; all edges to there
abbrev pub AreEdgesFrom : IdSize → List FactValue → ℕ → List Edge → Type 0
AreEdgesFrom ids facts from edges = AreEdges ids facts (λ edge. edge.from ≡ from) edges

abbrev pub AreReferrers : IdSize → List FactValue → ℕ → List Edge → Type 0
AreReferrers ids facts to edges = AreEdges ids facts (λ edge. edge.to ≡ to) edges
