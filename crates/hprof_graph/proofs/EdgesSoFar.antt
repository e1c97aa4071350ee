-- Edges, where some instances are laid.
use Rattle.std.specs.Prelude.{◌↔◌}
use Rattle.std.proofs.Common.{ℕ, ◌⊎◌, List, [], ◌∷◌, ◌++◌, Contains, sym, subst, inl, inr}
use Rattle.std.proofs.lemmas.List.Elements.{Contains-push_cases, Contains-append_left, Contains-push}
use Rattle.hprof_values.specs.declared.ids.IdSize.{IdSize}
use Rattle.hprof_items.specs.FactValue.{FactValue, Instance, ObjArray}
use Rattle.hprof_rows.specs.Conflict.{IsConsistent}
use Rattle.hprof_rows.specs.Facts.{Has}
use Rattle.hprof_heap.specs.Classes.{fact_of_class}
use Rattle.hprof_layouts.proofs.MoreFacts.{known_stays}
use Rattle.hprof_layouts.specs.Known.{HasLayout}
use Rattle.hprof_edges.specs.declared.edge.Edge.{Edge}
use Rattle.hprof_edges.specs.DumpEdges.{GivenByClass, GivenByObject, IsFieldEdge, IsObjectEdge}
use Rattle.hprof_edges.specs.Edges.{IsEdge}
use Rattle.hprof_edges.proofs.TableEdges.{GivesByClass, all_edges}
use Rattle.hprof_graph.specs.Derived.{AddsFact, CanBeLaid, GivesSoFar, IsEdgeSoFar}
use Rattle.hprof_graph.proofs.Instances.{is_there, known_was, one_class, one_instance, stays, was_or_is}

-- ---- one instance more is laid

module _ (ids : IdSize) (facts : List FactValue) (agree : IsConsistent facts) (laid : List ℕ) (instance trace class : ℕ) (bytes : List ℕ)
    (has : Has facts (Instance instance trace class bytes)) where
  abbrev longer : List ℕ
  longer = laid ++ instance ∷ []

  laid_now : (edge : Edge) (fact : FactValue) → Has facts fact → GivesSoFar ids facts longer fact edge
      → GivesSoFar ids facts laid fact edge ⊎ IsFieldEdge ids facts instance class bytes edge
  laid_now edge (Instance id other_trace other more) has_other (inl to_class) = inl (inl to_class)
  laid_now edge (Instance id other_trace other more) has_other (inr both) = elim (Contains-push_cases laid instance id both.0) [
    | inl there ↦ inl (inr (there, both.1))
    | inr same ↦
        let here = subst (λ (n : ℕ). Has facts (Instance n other_trace other more)) (sym same) has_other in
        let one = one_instance facts agree instance other_trace other trace class more bytes here has in
        inr (subst (λ (b : List ℕ). IsFieldEdge ids facts instance class b edge) one.1
        (subst (λ (c : ℕ). IsFieldEdge ids facts instance c more edge) one.0
        (subst (λ (n : ℕ). IsFieldEdge ids facts n other more edge) (sym same) both.1)))
  ]
  laid_now edge (ObjArray id other_trace other elements) has_other gives = inl gives
  laid_now edge fact has_other gives = absurd gives

  still : (edge : Edge) (fact : FactValue) → GivesSoFar ids facts laid fact edge → GivesSoFar ids facts longer fact edge
  still edge (Instance id other_trace other more) (inl to_class) = inl to_class
  still edge (Instance id other_trace other more) (inr both) = inr (Contains-append_left laid (instance ∷ []) id both.0, both.1)
  still edge (ObjArray id other_trace other elements) gives = gives
  still edge fact gives = absurd gives

  -- its fields give their edges
  pub with_fields : (edge : Edge)
      → IsEdgeSoFar ids facts longer edge ↔ (IsEdgeSoFar ids facts laid edge ⊎ IsFieldEdge ids facts instance class bytes edge)
  with_fields edge = (there, back) where
    there : IsEdgeSoFar ids facts longer edge → IsEdgeSoFar ids facts laid edge ⊎ IsFieldEdge ids facts instance class bytes edge
    there (inl by_class) = inl (inl by_class)
    there (inr given) = elim (laid_now edge given.fact given.has given.gives) [
      | inl before ↦ inl (inr (record { fact = given.fact; has = given.has; gives = before }))
      | inr by_field ↦ inr by_field
    ]

    back : IsEdgeSoFar ids facts laid edge ⊎ IsFieldEdge ids facts instance class bytes edge → IsEdgeSoFar ids facts longer edge
    back (inl (inl by_class)) = inl by_class
    back (inl (inr given)) = inr (record { fact = given.fact; has = given.has; gives = still edge given.fact given.gives })
    back (inr by_field) = inr (record {
      fact = Instance instance trace class bytes;
      has = has;
      gives = inr (Contains-push laid instance, by_field);
    })

-- ---- a fact more

module _ (ids : IdSize) (before : List FactValue) (fact : FactValue) (facts : List FactValue) (adds : AddsFact before fact facts)
    (laid : List ℕ) (can : (instance : ℕ) → Contains laid instance → CanBeLaid before instance) where
  -- the class of an instance that is laid had a known layout
  class_had : (id trace class : ℕ) (bytes : List ℕ) → Has facts (Instance id trace class bytes) → Contains laid id → HasLayout before class
  class_had id trace class bytes has there =
      let was = can id there in
      subst (HasLayout before) (one_class facts adds.agree id was.class class
      (was.is_of.0, record { trace = was.is_of.1.trace; has = stays before fact facts adds _ was.is_of.1.has })
      (bytes, record { trace = trace; has = has })) was.layout

  field_was : (id class : ℕ) (bytes : List ℕ) (edge : Edge) → HasLayout before class → IsFieldEdge ids facts id class bytes edge
      → IsFieldEdge ids before id class bytes edge
  field_was id class bytes edge had is =
      let reference = is.reference in
      let values = reference.values_are in
      record {
        not_zero = is.not_zero;
        from_is = is.from_is;
        via_is = is.via_is;
        reference = record {
          values = reference.values;
          values_are = record {
            slots = values.slots;
            known = known_was before fact facts adds class values.slots had values.known;
            fills = values.fills;
            values_are = values.values_are;
          };
          value = reference.value;
          there = reference.there;
          refers_is = reference.refers_is;
          to_is = reference.to_is;
        };
      }

  field_stays : (id class : ℕ) (bytes : List ℕ) (edge : Edge) → IsFieldEdge ids before id class bytes edge
      → IsFieldEdge ids facts id class bytes edge
  field_stays id class bytes edge is =
      let reference = is.reference in
      let values = reference.values_are in
      record {
        not_zero = is.not_zero;
        from_is = is.from_is;
        via_is = is.via_is;
        reference = record {
          values = reference.values;
          values_are = record {
            slots = values.slots;
            known = known_stays before facts (stays before fact facts adds) class values.slots values.known;
            fills = values.fills;
            values_are = values.values_are;
          };
          value = reference.value;
          there = reference.there;
          refers_is = reference.refers_is;
          to_is = reference.to_is;
        };
      }

  gives_was : (edge : Edge) (other : FactValue) → Has before other → GivesSoFar ids facts laid other edge
      → GivesSoFar ids before laid other edge
  gives_was edge (Instance id trace class bytes) has (inl to_class) = inl to_class
  gives_was edge (Instance id trace class bytes) has (inr both) =
      inr (
        both.0,
        field_was id class bytes edge
            (class_had id trace class bytes (stays before fact facts adds (Instance id trace class bytes) has) both.0) both.1,
      )
  gives_was edge (ObjArray id trace class elements) has gives = gives
  gives_was edge other has gives = absurd gives

  gives_still : (edge : Edge) (other : FactValue) → GivesSoFar ids before laid other edge → GivesSoFar ids facts laid other edge
  gives_still edge (Instance id trace class bytes) (inl to_class) = inl to_class
  gives_still edge (Instance id trace class bytes) (inr both) = inr (both.0, field_stays id class bytes edge both.1)
  gives_still edge (ObjArray id trace class elements) gives = gives
  gives_still edge other gives = absurd gives

  -- it gives its edges
  pub with_fact : (edge : Edge)
      → IsEdgeSoFar ids facts laid edge
      ↔ (IsEdgeSoFar ids before laid edge ⊎ (GivesByClass fact edge ⊎ GivesSoFar ids facts laid fact edge))
  with_fact edge = (there, back) where
    there : IsEdgeSoFar ids facts laid edge
        → IsEdgeSoFar ids before laid edge ⊎ (GivesByClass fact edge ⊎ GivesSoFar ids facts laid fact edge)
    there (inl by_class) = elim (was_or_is before fact facts adds (fact_of_class by_class.dump) by_class.has) [
      | inl same ↦ inr (inl (record { dump = by_class.dump; is = same; edge_is = by_class.edge_is }))
      | inr had ↦ inl (inl (record { dump = by_class.dump; has = had; edge_is = by_class.edge_is }))
    ]
    there (inr given) = elim (was_or_is before fact facts adds given.fact given.has) [
      | inl same ↦ inr (inr (subst (λ (f : FactValue). GivesSoFar ids facts laid f edge) same given.gives))
      | inr had ↦ inl (inr (record { fact = given.fact; has = had; gives = gives_was edge given.fact had given.gives }))
    ]

    back : IsEdgeSoFar ids before laid edge ⊎ (GivesByClass fact edge ⊎ GivesSoFar ids facts laid fact edge)
        → IsEdgeSoFar ids facts laid edge
    back (inl (inl by_class)) = inl (record {
      dump = by_class.dump;
      has = stays before fact facts adds (fact_of_class by_class.dump) by_class.has;
      edge_is = by_class.edge_is;
    })
    back (inl (inr given)) = inr (record {
      fact = given.fact;
      has = stays before fact facts adds given.fact given.has;
      gives = gives_still edge given.fact given.gives;
    })
    back (inr (inl by_class)) = inl (record {
      dump = by_class.dump;
      has = subst (Has facts) (sym by_class.is) (is_there before fact facts adds);
      edge_is = by_class.edge_is;
    })
    back (inr (inr gives)) = inr (record { fact = fact; has = is_there before fact facts adds; gives = gives })

-- ---- all edges

module _ (ids : IdSize) (facts : List FactValue) (laid : List ℕ)
    (whole : (instance : ℕ) → CanBeLaid facts instance → Contains laid instance) where
  gives_all : (edge : Edge) (fact : FactValue) → GivesSoFar ids facts laid fact edge → IsObjectEdge ids facts fact edge
  gives_all edge (Instance id trace class bytes) (inl to_class) = inl to_class
  gives_all edge (Instance id trace class bytes) (inr both) = inr both.1
  gives_all edge (ObjArray id trace class elements) gives = gives
  gives_all edge fact gives = absurd gives

  gives_laid : (edge : Edge) (fact : FactValue) → Has facts fact → IsObjectEdge ids facts fact edge → GivesSoFar ids facts laid fact edge
  gives_laid edge (Instance id trace class bytes) has (inl to_class) = inl to_class
  gives_laid edge (Instance id trace class bytes) has (inr by_field) =
      let values = by_field.reference.values_are in
      inr (
        whole id (record {
          class = class;
          is_of = (bytes, record { trace = trace; has = has });
          layout = (values.slots, values.known);
        }),
        by_field,
      )
  gives_laid edge (ObjArray id trace class elements) has gives = gives
  gives_laid edge fact has gives = absurd gives

  -- where all are laid that can be, they are the edges
  pub all_so_far : (edge : Edge) → IsEdgeSoFar ids facts laid edge ↔ IsEdge ids facts edge
  all_so_far edge = (there, back) where
    there : IsEdgeSoFar ids facts laid edge → IsEdge ids facts edge
    there (inl by_class) = (all_edges ids facts edge).1 (inl by_class)
    there (inr given) =
        (all_edges ids facts edge).1 (inr (record { fact = given.fact; has = given.has; edge_is = gives_all edge given.fact given.gives }))

    given_so : GivenByClass facts edge ⊎ GivenByObject ids facts edge → IsEdgeSoFar ids facts laid edge
    given_so (inl by_class) = inl by_class
    given_so (inr given) = inr (record { fact = given.fact; has = given.has; gives = gives_laid edge given.fact given.has given.edge_is })

    back : IsEdge ids facts edge → IsEdgeSoFar ids facts laid edge
    back is = given_so ((all_edges ids facts edge).0 is)
