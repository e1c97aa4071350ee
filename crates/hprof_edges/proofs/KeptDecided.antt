-- Of facts that agree each edge is left out or kept.
use Rattle.std.proofs.Common.{◌≡◌, ◌⊎◌, List, [], ◌∷◌, Contains, refl, ap, subst, inl, inr}
use Rattle.std.proofs.lemmas.Bool.Decides.{eqb_tells}
use Rattle.std.proofs.lemmas.List.Elements.{Contains-append_cases, Contains-append_left, Contains-append_right, Contains-push}
use Rattle.hprof_values.specs.declared.ids.IdSize.{IdSize}
use Rattle.hprof_items.specs.FactValue.{FactValue, Instance}
use Rattle.hprof_rows.specs.declared.key.Key.TheVariants as keys
use Rattle.hprof_rows.specs.Conflict.{IsConsistent}
use Rattle.hprof_heap.proofs.ObjectFacts.{IsOnlyObject}
use Rattle.hprof_heap.proofs.ObjectFacts as objects
use Rattle.hprof_edges.specs.declared.edge.Via.{Via}
use Rattle.hprof_edges.specs.declared.edge.Via.TheVariants as vias
use Rattle.hprof_edges.specs.declared.edge.Edge.{Edge}
use Rattle.hprof_edges.specs.declared.field_place.FieldPlace.{FieldPlace}
use Rattle.hprof_edges.specs.LeftOut.{IsKept, IsLeftOutOf}
use Rattle.hprof_edges.proofs.EdgeMembers.{one_there}
use Rattle.hprof_edges.proofs.LeftOutEdges.{is_left_out, left_out_of}
use Rattle.hprof_edges.proofs.PutTogether.{nothing_there}

field_decided : (one other : FieldPlace) → (one ≡ other) ⊎ (one ≡ other → ⊥)
field_decided one other = elim (eqb_tells one.class other.class) [
  | inl class ↦ elim (eqb_tells one.place other.place) [
    | inl place ↦ inl (λ i. record { class = class.1 i; place = place.1 i })
    | inr apart ↦ inr (λ same. apart.1 (ap (λ (f : FieldPlace). f.place) same))
  ]
  | inr apart ↦ inr (λ same. apart.1 (ap (λ (f : FieldPlace). f.class) same))
]

among_decided : (fields : List FieldPlace) (field : FieldPlace) → Contains fields field ⊎ (Contains fields field → ⊥)
among_decided [] field = inr (nothing_there field)
among_decided (first ∷ fields) field = go (field_decided first field) (among_decided fields field) where
  go : (first ≡ field) ⊎ (first ≡ field → ⊥) → Contains fields field ⊎ (Contains fields field → ⊥)
      → Contains (first ∷ fields) field ⊎ (Contains (first ∷ fields) field → ⊥)
  go here (inl later) = inl (Contains-append_right (first ∷ []) fields field later)
  go (inl same) (inr none) =
      inl (Contains-append_left (first ∷ []) fields field (subst (Contains (first ∷ [])) same (Contains-push [] first)))
  go (inr apart) (inr none) = inr (λ has. elim (Contains-append_cases (first ∷ []) fields field has) [
    | inl here ↦ apart (one_there first field here)
    | inr later ↦ none later
  ])

via_decided : (via : Via) → (via ≡ vias.Field) ⊎ (via ≡ vias.Field → ⊥)
via_decided vias.Field = inl refl
via_decided via = inr (λ same. cc)

of_decided : (fields : List FieldPlace) (fact : FactValue) (edge : Edge) → IsLeftOutOf fields fact edge ⊎ (IsLeftOutOf fields fact edge → ⊥)
of_decided fields (Instance id trace class bytes) edge = elim (via_decided edge.via) [
  | inl via ↦ elim (among_decided fields (record { class = class; place = edge.position })) [
    | inl has ↦ inl (via, has)
    | inr none ↦ inr (λ out. none out.1)
  ]
  | inr other ↦ inr (λ out. other out.0)
]
of_decided fields fact edge = inr (λ out. out)

pub kept_decided : (ids : IdSize) (facts : List FactValue) → IsConsistent facts → (fields : List FieldPlace) (edge : Edge)
    → IsKept fields facts edge ⊎ (IsKept fields facts edge → ⊥)
kept_decided ids facts agree fields edge = elim (objects.look_up facts edge.from) [
  | objects.NotFound none ↦ inl (λ out. none (Instance edge.from out.instance.trace out.class out.bytes) out.instance.has refl)
  | objects.Found fact has is ↦
      let only : IsOnlyObject facts edge.from fact =
      record { has = has; id = is; only = λ other has_it is_it. agree (keys.Object edge.from) fact other has has_it is is_it } in
      elim (of_decided fields fact edge) [
        | inl out ↦ inr (λ kept. kept (is_left_out ids facts fields fact edge only out))
        | inr none ↦ inl (λ out. none (left_out_of ids facts fields fact edge only out))
      ]
]
