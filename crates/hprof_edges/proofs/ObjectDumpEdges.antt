-- The edges that are put of an object dump are those that it gives.
use Rattle.std.specs.Prelude.{◌↔◌, slice_get}
use Rattle.std.proofs.Common.{◌≡◌, ℕ, List, Contains, Some, refl, sym, ap, subst, ◌∙◌}
use Rattle.hprof_values.specs.declared.ids.IdSize.{IdSize}
use Rattle.hprof_items.specs.FactValue.{FactValue}
use Rattle.hprof_rows.specs.Conflict.{IsConsistent}
use Rattle.hprof_layouts.specs.declared.field_value.FieldValue.{FieldValue}
use Rattle.hprof_layouts.specs.Fields.{AreFields, FieldsValue, Values}
use Rattle.hprof_layouts.proofs.FieldAnswers.{fields_once}
use Rattle.hprof_layouts.specs.declared.reference.Reference.{Reference}
use Rattle.hprof_layouts.specs.References.{AreReferences}
use Rattle.hprof_edges.specs.declared.edge.Via.TheVariants as vias
use Rattle.hprof_edges.specs.declared.edge.Edge.{Edge}
use Rattle.hprof_edges.specs.DumpEdges.{GivenByInstance, IsEdgeToClass, IsElementEdge, IsFieldEdge}
use Rattle.hprof_edges.specs.EdgeLists.{numbered, reference_edges, targets_of_values, unless_zero}
use Rattle.hprof_edges.proofs.EdgeMembers.{at_position, is_numbered, is_referred, numbered_is, only_there, referred_is, there_once}
use Rattle.hprof_edges.proofs.Targets.{is_target, target_there}

-- ---- to the class

pub to_class : (object class : ℕ) (edge : Edge)
    → Contains (unless_zero (record { from = object; via = vias.Class; position = 0; to = class })) edge ↔ IsEdgeToClass object class edge
to_class object class edge = (there, back) where
  one : Edge
  one = record { from = object; via = vias.Class; position = 0; to = class }

  there : Contains (unless_zero one) edge → IsEdgeToClass object class edge
  there has =
      let is = only_there one edge has in
      subst (IsEdgeToClass object class) is.same (record {
        not_zero = is.not_zero;
        from_is = refl;
        via_is = refl;
        position_is = refl;
        to_is = refl;
      })

  back : IsEdgeToClass object class edge → Contains (unless_zero one) edge
  back is =
      let same : one ≡ edge =
      λ i. record { from = sym is.from_is i; via = sym is.via_is i; position = sym is.position_is i; to = is.to_is i } in
      subst (Contains (unless_zero one)) same (there_once one (λ e. is.not_zero (sym is.to_is ∙ e)))

-- ---- by fields

pub by_references : (ids : IdSize) (facts : List FactValue) (object class : ℕ) (bytes : List ℕ) (references : List Reference)
    → AreReferences ids facts class bytes references → (edge : Edge)
    → Contains (reference_edges object references) edge ↔ IsFieldEdge ids facts object class bytes edge
by_references ids facts object class bytes references are edge = (there, back) where
  there : Contains (reference_edges object references) edge → IsFieldEdge ids facts object class bytes edge
  there has =
      let is = referred_is object references edge has in
      record {
        not_zero = is.not_zero;
        from_is = is.from_is;
        via_is = is.via_is;
        reference = (are.each (record { place = edge.position; to = edge.to })).0 is.there;
      }

  back : IsFieldEdge ids facts object class bytes edge → Contains (reference_edges object references) edge
  back is = is_referred object references edge (record {
    not_zero = is.not_zero;
    from_is = is.from_is;
    via_is = is.via_is;
    there = (are.each (record { place = edge.position; to = edge.to })).1 is.reference;
  })

-- ---- by elements

pub by_elements : (array : ℕ) (elements : List ℕ) (edge : Edge)
    → Contains (numbered array vias.Element 0 elements) edge ↔ IsElementEdge array elements edge
by_elements array elements edge = (there, back) where
  there : Contains (numbered array vias.Element 0 elements) edge → IsElementEdge array elements edge
  there has =
      let is = numbered_is array vias.Element 0 elements edge has in
      record {
        not_zero = is.not_zero;
        from_is = is.from_is;
        via_is = is.via_is;
        there = at_position array vias.Element elements edge is;
      }

  back : IsElementEdge array elements edge → Contains (numbered array vias.Element 0 elements) edge
  back is = is_numbered array vias.Element elements edge is.not_zero is.from_is is.via_is is.there

-- ---- by the fields of the object

module _ (ids : IdSize) (facts : List FactValue) (object : ℕ) where
  -- where a field gives an edge, the fields of the object are values
  pub values_of : (edge : Edge) (is : GivenByInstance ids facts object edge)
      → AreFields ids facts object (Values is.edge_is.reference.values)
  values_of edge is = record {
    class = is.class;
    bytes = is.bytes;
    instance = is.instance;
    fields_are = is.edge_is.reference.values_are;
  }

  pub by_values : IsConsistent facts → (values : List FieldValue) → AreFields ids facts object (Values values) → (edge : Edge)
      → Contains (numbered object vias.Field 0 (targets_of_values values)) edge ↔ GivenByInstance ids facts object edge
  by_values agree values are edge = (there, back) where
    there : Contains (numbered object vias.Field 0 (targets_of_values values)) edge → GivenByInstance ids facts object edge
    there has =
        let is = numbered_is object vias.Field 0 (targets_of_values values) edge has in
        let at = is_target (λ (value : FieldValue). value.basic) (λ (value : FieldValue). value.bits) values edge.position edge.to
        is.not_zero (at_position object vias.Field (targets_of_values values) edge is) in
        record {
          class = are.class;
          bytes = are.bytes;
          instance = are.instance;
          edge_is = record {
            not_zero = is.not_zero;
            from_is = is.from_is;
            via_is = is.via_is;
            reference = record {
              values = values;
              values_are = are.fields_are;
              value = at.value;
              there = at.there;
              refers_is = at.refers_is;
              to_is = at.to_is;
            };
          };
        }

    back : GivenByInstance ids facts object edge → Contains (numbered object vias.Field 0 (targets_of_values values)) edge
    back is =
        let e = is.edge_is in
        let reference = e.reference in
        let same : Values reference.values ≡ Values values = fields_once ids facts object _ _ agree (values_of edge is) are in
        let lists : reference.values ≡ values = cc in
        let there : slice_get values edge.position ≡ Some reference.value =
        subst (λ (l : List FieldValue). slice_get l edge.position ≡ Some reference.value) lists reference.there in
        is_numbered object vias.Field (targets_of_values values) edge e.not_zero e.from_is e.via_is
        (target_there (λ (value : FieldValue). value.basic) (λ (value : FieldValue). value.bits) values edge.position reference.value there
        reference.refers_is ∙ ap Some reference.to_is)

  -- where they are something else, no field gives one
  pub no_values : IsConsistent facts → (answer : FieldsValue) → AreFields ids facts object answer
      → ((values : List FieldValue) → answer ≡ Values values → ⊥) → (edge : Edge) → GivenByInstance ids facts object edge → ⊥
  no_values agree answer are none edge is =
      none is.edge_is.reference.values (fields_once ids facts object _ _ agree are (values_of edge is))
