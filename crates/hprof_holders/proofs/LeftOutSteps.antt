-- Whether an edge is by a field of a table.
use Rattle.std.specs.Prelude.{◌↔◌, Contains}
use Rattle.std.proofs.Common.{◌≡◌, ◌==◌, ℕ, Bool, true, List, [], ◌∷◌, Some, Bor, refl, sym, ap, inl, inr}
use Rattle.std.proofs.lemmas.Bool.{eq-eqb, eqb-true, or_cases, or_left, or_right}
use Rattle.hprof_values.specs.declared.ids.IdSize.{IdSize}
use Rattle.hprof_items.specs.FactValue.{FactValue, Instance}
use Rattle.hprof_heap.specs.declared.object_dump.ObjectDump.TheVariants as dumps
use Rattle.hprof_heap.specs.ObjectDump.{AnswersObject}
use Rattle.hprof_heap.proofs.ObjectFacts.{IsOnlyObject}
use Rattle.hprof_histogram.proofs.Members.{IsIn, Contains-from_in, in_from_Contains}
use Rattle.hprof_edges.specs.declared.edge.Via.TheVariants as vias
use Rattle.hprof_edges.specs.declared.edge.Edge.{Edge}
use Rattle.hprof_edges.specs.declared.field_place.FieldPlace.{FieldPlace}
use Rattle.hprof_edges.specs.LeftOut.{IsLeftOut, has_place}
use Rattle.hprof_edges.proofs.LeftOutEdges.{is_left_out, left_out_of}

-- ---- by place

module _ (class place : ℕ) where
  abbrev field_there : FieldPlace
  field_there = record { class = class; place = place }

  in_from_place : (fields : List FieldPlace) → ((field : FieldPlace) → IsIn field fields → field.class ≡ class)
      → has_place fields place ≡ true → IsIn field_there fields
  in_from_place [] of_class e = absurd cc
  in_from_place (field ∷ fields) of_class e = elim (or_cases (field.place == place) (has_place fields place) e) [
    | inl here ↦
        let is_place = sym (eqb-true field.place place here) in
        let is_class = sym (of_class field (inl refl)) in
        inl (λ i. record { class = is_class i; place = is_place i })
    | inr later ↦ inr (in_from_place fields (λ other has. of_class other (inr has)) later)
  ]

  place_from_in : (fields : List FieldPlace) → IsIn field_there fields → has_place fields place ≡ true
  place_from_in [] has = absurd has
  place_from_in (field ∷ fields) has = elim has [
    | inl is ↦
        or_left (field.place == place) (has_place fields place)
        (eq-eqb field.place place (sym (ap (λ (f : FieldPlace). f.place) is)))
    | inr later ↦ or_right (field.place == place) (has_place fields place) (place_from_in fields later)
  ]

  -- one of the fields of the class has the place, if the table has the field
  pub by_place : (table fields : List FieldPlace)
      → ((field : FieldPlace) → Contains fields field ↔ (Contains table field × (field.class ≡ class)))
      → (has_place fields place ≡ true) ↔ Contains table field_there
  by_place table fields are = (
    λ e. ((are field_there).0 (Contains-from_in fields field_there (in_from_place fields
        (λ field has. ((are field).0 (Contains-from_in fields field has)).1) e))).0,
    λ has. place_from_in fields (in_from_Contains fields field_there ((are field_there).1 (has, refl))),
  )

-- ---- by what is found of the object

module _ (ids : IdSize) (facts : List FactValue) (table : List FieldPlace) (edge : Edge) where
  pub of_instance : (id trace class : ℕ) (bytes : Bor (List ℕ))
      → AnswersObject ids facts edge.from (Some (dumps.Instance id trace class bytes)) → edge.via ≡ vias.Field → (found : Bool)
      → (found ≡ true) ↔ Contains table (field_there class edge.position) → (found ≡ true) ↔ IsLeftOut table facts edge
  of_instance id trace class bytes is via found there =
      let fact = Instance id trace class bytes.now in
      let only : IsOnlyObject facts edge.from fact = record { has = is.found; id = is.id; only = is.only } in (
        λ e. is_left_out ids facts table fact edge only (via, there.0 e),
        λ out. there.1 (left_out_of ids facts table fact edge only out).1,
      )
