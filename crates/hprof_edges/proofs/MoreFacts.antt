-- An edge stays with more facts.
use Rattle.std.proofs.Common.{ℕ, List, inl, inr}
use Rattle.hprof_values.specs.declared.ids.IdSize.{IdSize}
use Rattle.hprof_items.specs.FactValue.{FactValue, Instance, ObjArray}
use Rattle.hprof_rows.specs.Facts.{Has}
use Rattle.hprof_heap.specs.Classes.{ClassValue, fact_of_class}
use Rattle.hprof_heap.specs.Objects.{HasInstance, HasElements}
use Rattle.hprof_layouts.specs.declared.field_value.FieldValue.{FieldValue}
use Rattle.hprof_layouts.specs.Fields.{HasValues}
use Rattle.hprof_layouts.proofs.MoreFacts.{known_stays}
use Rattle.hprof_layouts.specs.declared.reference.Reference.{Reference}
use Rattle.hprof_layouts.specs.References.{HasReference}
use Rattle.hprof_edges.specs.declared.edge.Via.{Via}
use Rattle.hprof_edges.specs.declared.edge.Via.TheVariants as vias
use Rattle.hprof_edges.specs.declared.edge.Edge.{Edge}
use Rattle.hprof_edges.specs.Edges.{HasClass, OfDump, FieldRefers, ElementRefers, Refers, IsEdge}

module _ (facts more : List FactValue) (all : (fact : FactValue) → Has facts fact → Has more fact) where
  instance_stays : (object class : ℕ) (bytes : List ℕ) → HasInstance facts object class bytes → HasInstance more object class bytes
  instance_stays object class bytes is = record { trace = is.trace; has = all (Instance object is.trace class bytes) is.has }

  elements_stay : (object class : ℕ) (elements : List ℕ) → HasElements facts object class elements → HasElements more object class elements
  elements_stay object class elements is = record { trace = is.trace; has = all (ObjArray object is.trace class elements) is.has }

  class_stays : (object class : ℕ) → HasClass facts object class → HasClass more object class
  class_stays object class (inl is) = inl (is.0, instance_stays object class is.0 is.1)
  class_stays object class (inr is) = inr (is.0, elements_stay object class is.0 is.1)

  dump_stays : (class : ℕ) (P : ClassValue → Type 0) → OfDump facts class P → OfDump more class P
  dump_stays class P is = record { dump = is.dump; has = all (fact_of_class is.dump) is.has; id = is.id; holds = is.holds }

  values_stay : (ids : IdSize) (class : ℕ) (bytes : List ℕ) (values : List FieldValue) → HasValues ids facts class bytes values
      → HasValues ids more class bytes values
  values_stay ids class bytes values is = record {
    slots = is.slots;
    known = known_stays facts more all class is.slots is.known;
    fills = is.fills;
    values_are = is.values_are;
  }

  reference_stays : (ids : IdSize) (class : ℕ) (bytes : List ℕ) (reference : Reference) → HasReference ids facts class bytes reference
      → HasReference ids more class bytes reference
  reference_stays ids class bytes reference is = record {
    values = is.values;
    values_are = values_stay ids class bytes is.values is.values_are;
    value = is.value;
    there = is.there;
    refers_is = is.refers_is;
    to_is = is.to_is;
  }

  field_stays : (ids : IdSize) (object position to : ℕ) → FieldRefers ids facts object position to → FieldRefers ids more object position to
  field_stays ids object position to is = record {
    class = is.class;
    bytes = is.bytes;
    instance = instance_stays object is.class is.bytes is.instance;
    reference = reference_stays ids is.class is.bytes (record { place = position; to = to }) is.reference;
  }

  element_stays : (object position to : ℕ) → ElementRefers facts object position to → ElementRefers more object position to
  element_stays object position to is = record {
    class = is.class;
    elements = is.elements;
    array = elements_stay object is.class is.elements is.array;
    there = is.there;
  }

  refers_still : (ids : IdSize) (from : ℕ) (via : Via) (position to : ℕ) → Refers ids facts from via position to
      → Refers ids more from via position to
  refers_still ids from vias.Class position to is = (is.0, class_stays from to is.1)
  refers_still ids from vias.Parent position to is = (is.0, dump_stays from _ is.1)
  refers_still ids from vias.Loader position to is = (is.0, dump_stays from _ is.1)
  refers_still ids from vias.Signers position to is = (is.0, dump_stays from _ is.1)
  refers_still ids from vias.Domain position to is = (is.0, dump_stays from _ is.1)
  refers_still ids from vias.Constant position to is = dump_stays from _ is
  refers_still ids from vias.Static position to is = dump_stays from _ is
  refers_still ids from vias.Field position to is = field_stays ids from position to is
  refers_still ids from vias.Element position to is = element_stays from position to is

  pub edge_stays : (ids : IdSize) (edge : Edge) → IsEdge ids facts edge → IsEdge ids more edge
  edge_stays ids edge is = (is.0, refers_still ids edge.from edge.via edge.position edge.to is.1)
