-- The edges that are left out, and those that are kept.
use Rattle.std.specs.Prelude.{◌↔◌, filter, not}
use Rattle.std.proofs.Common.{◌≡◌, ◌==◌, ◌⊎◌, ℕ, Bool, true, false, cond, List, [], ◌∷◌, Some, Contains}
use Rattle.std.proofs.Common.{refl, sym, ap, subst, ◌∙◌, inl, inr}
use Rattle.std.proofs.lemmas.Bool.{eqb-true, eq-eqb, or_cases, or_left, or_right}
use Rattle.std.proofs.lemmas.List.Elements.{Contains-append_cases, Contains-append_left, Contains-append_right, Contains-push}
use Rattle.hprof_values.specs.declared.ids.IdSize.{IdSize}
use Rattle.hprof_items.specs.FactValue.{FactValue, Instance}
use Rattle.hprof_rows.specs.declared.key.Key.TheVariants as keys
use Rattle.hprof_rows.specs.Facts.{Has}
use Rattle.hprof_heap.specs.Classes.{HasNoDump}
use Rattle.hprof_heap.proofs.ObjectFacts.{IsOnlyObject}
use Rattle.hprof_layouts.specs.declared.reference.Reference.{Reference}
use Rattle.hprof_layouts.specs.References.{AreReferences}
use Rattle.hprof_edges.specs.declared.edge.Via.{Via}
use Rattle.hprof_edges.specs.declared.edge.Via.TheVariants as vias
use Rattle.hprof_edges.specs.declared.edge.Edge.{Edge}
use Rattle.hprof_edges.specs.declared.field_place.FieldPlace.{FieldPlace}
use Rattle.hprof_edges.specs.DumpEdges.{ClassRefers, GivenByClass, GivenByObject, IsEdgeToClass, IsFieldEdge, IsObjectEdge}
use Rattle.hprof_edges.specs.Edges.{IsEdge}
use Rattle.hprof_edges.specs.EdgeLists.{reference_edges}
use Rattle.hprof_edges.specs.KeptMembers.{kept_are}
use Rattle.hprof_edges.specs.LeftOut.{IsKept, IsLeftOut, IsLeftOutOf, has_place}
use Rattle.hprof_edges.proofs.EdgeMembers.{is_referred, one_there, referred_is}
use Rattle.hprof_edges.proofs.OnlyDumps.{dumps_from, object_dump_from, of_only}
use Rattle.hprof_edges.proofs.PutTogether.{nothing_there}

-- ---- no fields

pub all_kept : (fields : List FieldPlace) (facts : List FactValue) (edge : Edge) → fields ≡ [] → IsKept fields facts edge
all_kept fields facts edge none out =
    nothing_there _ (subst (λ (l : List FieldPlace). Contains l (record { class = out.class; place = edge.position })) none out.there)

-- ---- by place

-- all fields are of one class
module _ (class : ℕ) where
  place_there : (fields : List FieldPlace) → ((field : FieldPlace) → Contains fields field → field.class ≡ class) → (place : ℕ)
      → has_place fields place ≡ true → Contains fields (record { class = class; place = place })
  place_there [] of_class place e = absurd cc
  place_there (field ∷ fields) of_class place e = elim (or_cases (field.place == place) (has_place fields place) e) [
    | inl here ↦
        let is_place = eqb-true field.place place here in
        let is_class = of_class field (Contains-append_left (field ∷ []) fields field (Contains-push [] field)) in
        subst (λ (f : FieldPlace). Contains (field ∷ fields) f)
        (λ i. record { class = is_class i; place = is_place i })
        (Contains-append_left (field ∷ []) fields field (Contains-push [] field))
    | inr later ↦ Contains-append_right (field ∷ []) fields (record { class = class; place = place })
        (place_there fields (λ other has. of_class other (Contains-append_right (field ∷ []) fields other has)) place later)
  ]

  there_place : (fields : List FieldPlace) (place : ℕ) → Contains fields (record { class = class; place = place })
      → has_place fields place ≡ true
  there_place [] place has = absurd (nothing_there _ has)
  there_place (field ∷ fields) place has = elim (Contains-append_cases (field ∷ []) fields (record { class = class; place = place }) has) [
    | inl here ↦ or_left (field.place == place) (has_place fields place)
        (eq-eqb field.place place (ap (λ (f : FieldPlace). f.place) (one_there field (record { class = class; place = place }) here)))
    | inr later ↦ or_right (field.place == place) (has_place fields place) (there_place fields place later)
  ]

  -- the fields of the class in a table have the place that one of the table's has
  module _ (table fields : List FieldPlace)
      (are : (field : FieldPlace) → Contains fields field ↔ (Contains table field × (field.class ≡ class))) (place : ℕ) where
    pub none_there : has_place fields place ≡ false → Contains table (record { class = class; place = place }) → ⊥
    none_there free has =
        let yes = there_place fields place ((are (record { class = class; place = place })).1 (has, refl)) in
        let unheld = free in
        absurd cc

    pub has_none : (Contains table (record { class = class; place = place }) → ⊥) → has_place fields place ≡ false
    has_none none = go (has_place fields place) refl where
      go : (t : Bool) → has_place fields place ≡ t → t ≡ false
      go true e = absurd (none ((are (record { class = class; place = place })).0
          (place_there fields (λ field has. ((are field).0 has).1) place e)).0)
      go false e = refl

-- ---- references

-- filters in either order
module _ {X : Type 0} (p q : X → Bool) where
  first_either : (x : X) (xs : List X) → filter p (filter q xs) ≡ filter q (filter p xs) → (a b : Bool) → p x ≡ a → q x ≡ b
      → filter p (filter q (x ∷ xs)) ≡ filter q (filter p (x ∷ xs))
  first_either x xs rest true true is too =
      ap (λ (t : Bool). filter p (cond t (x ∷ filter q xs) (filter q xs))) too
      ∙ ap (λ (t : Bool). cond t (x ∷ filter p (filter q xs)) (filter p (filter q xs))) is
      ∙ ap (λ (l : List X). x ∷ l) rest
      ∙ sym (ap (λ (t : Bool). filter q (cond t (x ∷ filter p xs) (filter p xs))) is
      ∙ ap (λ (t : Bool). cond t (x ∷ filter q (filter p xs)) (filter q (filter p xs))) too)
  first_either x xs rest true false is too =
      ap (λ (t : Bool). filter p (cond t (x ∷ filter q xs) (filter q xs))) too
      ∙ rest
      ∙ sym (ap (λ (t : Bool). filter q (cond t (x ∷ filter p xs) (filter p xs))) is
      ∙ ap (λ (t : Bool). cond t (x ∷ filter q (filter p xs)) (filter q (filter p xs))) too)
  first_either x xs rest false true is too =
      ap (λ (t : Bool). filter p (cond t (x ∷ filter q xs) (filter q xs))) too
      ∙ ap (λ (t : Bool). cond t (x ∷ filter p (filter q xs)) (filter p (filter q xs))) is
      ∙ rest
      ∙ sym (ap (λ (t : Bool). filter q (cond t (x ∷ filter p xs) (filter p xs))) is)
  first_either x xs rest false false is too =
      ap (λ (t : Bool). filter p (cond t (x ∷ filter q xs) (filter q xs))) too
      ∙ rest
      ∙ sym (ap (λ (t : Bool). filter q (cond t (x ∷ filter p xs) (filter p xs))) is)

  pub filters_either : (xs : List X) → filter p (filter q xs) ≡ filter q (filter p xs)
  filters_either [] = refl
  filters_either (x ∷ xs) = first_either x xs (filters_either xs) (p x) (q x) refl refl

-- it is by no such field
abbrev pub stays : List FieldPlace → Reference → Bool
stays fields reference = not (has_place fields reference.place)

abbrev pub cached_references : List FieldPlace → List Reference → List Reference
cached_references fields references = filter (stays fields) references

not-true : (b : Bool) → not b ≡ true → b ≡ false
not-true true e = absurd cc
not-true false e = refl

-- the edges by these
pub by_kept : (ids : IdSize) (facts : List FactValue) (object class : ℕ) (bytes : List ℕ) (fields : List FieldPlace)
    (references : List Reference) → AreReferences ids facts class bytes references → (edge : Edge)
    → Contains (reference_edges object (cached_references fields references)) edge
    ↔ (IsFieldEdge ids facts object class bytes edge × (has_place fields edge.position ≡ false))
by_kept ids facts object class bytes fields references are edge = (there, back) where
  there : Contains (reference_edges object (cached_references fields references)) edge
      → IsFieldEdge ids facts object class bytes edge × (has_place fields edge.position ≡ false)
  there has =
      let is = referred_is object (cached_references fields references) edge has in
      let both = (kept_are (stays fields) references (record { place = edge.position; to = edge.to })).0 is.there in (
        record {
          not_zero = is.not_zero;
          from_is = is.from_is;
          via_is = is.via_is;
          reference = (are.each (record { place = edge.position; to = edge.to })).0 both.0;
        },
        not-true (has_place fields edge.position) both.1,
      )

  back : IsFieldEdge ids facts object class bytes edge × (has_place fields edge.position ≡ false)
      → Contains (reference_edges object (cached_references fields references)) edge
  back both =
      let is = both.0 in
      is_referred object (cached_references fields references) edge (record {
        not_zero = is.not_zero;
        from_is = is.from_is;
        via_is = is.via_is;
        there = (kept_are (stays fields) references (record { place = edge.position; to = edge.to })).1
            ((are.each (record { place = edge.position; to = edge.to })).1 is.reference, ap not both.1);
      })

-- ---- an object dump

module _ (ids : IdSize) (facts : List FactValue) (table : List FieldPlace) where
  -- an edge to a class is by no field
  class_stays : (object class : ℕ) (edge : Edge) → IsEdgeToClass object class edge → edge.via ≡ vias.Field → ⊥
  class_stays object class edge is by_field = let via = is.via_is in absurd cc

  -- where the table has no field of the class, all edges stay
  pub all_stay : (fields : List FieldPlace) (id trace class : ℕ) (bytes : List ℕ) (edge : Edge)
      → ((field : FieldPlace) → Contains fields field ↔ (Contains table field × (field.class ≡ class))) → fields ≡ []
      → (IsObjectEdge ids facts (Instance id trace class bytes) edge × ¬ IsLeftOutOf table (Instance id trace class bytes) edge)
      ↔ IsObjectEdge ids facts (Instance id trace class bytes) edge
  all_stay fields id trace class bytes edge are none = (
    λ both. both.0,
    λ is. (
      is,
      λ out. nothing_there _ (subst (λ (l : List FieldPlace). Contains l (record { class = class; place = edge.position })) none
          ((are (record { class = class; place = edge.position })).1 (out.1, refl))),
    ),
  )

  pub instance_kept : (fields : List FieldPlace) (id trace class : ℕ) (bytes : List ℕ) (edge : Edge)
      → ((field : FieldPlace) → Contains fields field ↔ (Contains table field × (field.class ≡ class)))
      → (IsObjectEdge ids facts (Instance id trace class bytes) edge × ¬ IsLeftOutOf table (Instance id trace class bytes) edge)
      ↔ (IsEdgeToClass id class edge
      ⊎ (IsFieldEdge ids facts id class bytes edge × (has_place fields edge.position ≡ false)))
  instance_kept fields id trace class bytes edge are = (there, back) where
    there : IsObjectEdge ids facts (Instance id trace class bytes) edge × ¬ IsLeftOutOf table (Instance id trace class bytes) edge
        → IsEdgeToClass id class edge ⊎ (IsFieldEdge ids facts id class bytes edge × (has_place fields edge.position ≡ false))
    there both = elim both.0 [
      | inl to_class ↦ inl to_class
      | inr by_field ↦ inr (by_field, has_none class table fields are edge.position (λ has. both.1 (by_field.via_is, has)))
    ]

    back : IsEdgeToClass id class edge ⊎ (IsFieldEdge ids facts id class bytes edge × (has_place fields edge.position ≡ false))
        → IsObjectEdge ids facts (Instance id trace class bytes) edge × ¬ IsLeftOutOf table (Instance id trace class bytes) edge
    back (inl to_class) = (inl to_class, λ out. class_stays id class edge to_class out.0)
    back (inr both) = (inr both.0, λ out. none_there class table fields are edge.position both.1 out.1)

  -- ---- the dumps of an identifier

  -- an edge that a class dump gives is by no field
  pub class_kept : (edge : Edge) → GivenByClass facts edge → IsKept table facts edge
  class_kept edge given out =
      subst (λ (via : Via). ClassRefers given.dump via edge.position edge.to) out.via_is given.edge_is.refers_is

  same_object : (id object : ℕ) → Some (keys.Object id) ≡ Some (keys.Object object) → id ≡ object
  same_object id object same = cc

  pub left_out_of : (fact : FactValue) (edge : Edge) → IsOnlyObject facts edge.from fact → IsLeftOut table facts edge
      → IsLeftOutOf table fact edge
  left_out_of fact edge only out =
      subst (λ (f : FactValue). IsLeftOutOf table f edge)
      (sym (only.only (Instance edge.from out.instance.trace out.class out.bytes) out.instance.has refl)) (out.via_is, out.there)

  pub is_left_out : (fact : FactValue) (edge : Edge) → IsOnlyObject facts edge.from fact → IsLeftOutOf table fact edge
      → IsLeftOut table facts edge
  is_left_out (Instance id trace class bytes) edge only out = record {
    via_is = out.0;
    class = class;
    bytes = bytes;
    instance = record {
      trace = trace;
      has = subst (λ (n : ℕ). Has facts (Instance n trace class bytes)) (same_object id edge.from only.id) only.has;
    };
    there = out.1;
  }
  is_left_out fact edge only out = absurd out

  pub kept_of_only : (object : ℕ) (fact : FactValue) → IsOnlyObject facts object fact → (edge : Edge)
      → ((edge.from ≡ object) × GivenByObject ids facts edge × IsKept table facts edge)
      ↔ (IsObjectEdge ids facts fact edge × ¬ IsLeftOutOf table fact edge)
  kept_of_only object fact is edge = (
    λ given. (
      (of_only ids facts object fact is edge).0 (given.0, given.1),
      λ out. given.2 (is_left_out fact edge (subst (λ (n : ℕ). IsOnlyObject facts n fact) (sym given.0) is) out),
    ),
    λ gives. (
        let both = (of_only ids facts object fact is edge).1 gives.0 in (
          both.0,
          both.1,
          λ out. gives.1 (left_out_of fact edge (subst (λ (n : ℕ). IsOnlyObject facts n fact) (sym both.0) is) out),
        )
        ),
  )

  -- the edges from an identifier that are kept
  pub kept_from : (object : ℕ) (edge : Edge) → (IsEdge ids facts edge × (edge.from ≡ object) × IsKept table facts edge)
      ↔ (((edge.from ≡ object) × GivenByClass facts edge)
      ⊎ ((edge.from ≡ object) × GivenByObject ids facts edge × IsKept table facts edge))
  kept_from object edge = (
    λ is. elim ((dumps_from ids facts object edge).0 (is.0, is.1)) [
      | inl given ↦ inl given
      | inr given ↦ inr (given.0, given.1, is.2)
    ],
    λ given. elim given [
      | inl class ↦ (let is = (dumps_from ids facts object edge).1 (inl class) in (is.0, is.1, class_kept edge class.1))
      | inr dump ↦ (let is = (dumps_from ids facts object edge).1 (inr (dump.0, dump.1)) in (is.0, is.1, dump.2))
    ],
  )

  -- where there is no class dump, all are given by the object dump
  pub kept_from_object : (object : ℕ) → HasNoDump facts object → (edge : Edge)
      → (IsEdge ids facts edge × (edge.from ≡ object) × IsKept table facts edge)
      ↔ ((edge.from ≡ object) × GivenByObject ids facts edge × IsKept table facts edge)
  kept_from_object object none edge = (
    λ is. (let given = (object_dump_from ids facts object none edge).0 (is.0, is.1) in (given.0, given.1, is.2)),
    λ given. (let is = (object_dump_from ids facts object none edge).1 (given.0, given.1) in (is.0, is.1, given.2)),
  )

-- where the table has no fields, all edges from the identifier are kept
pub all_from : (ids : IdSize) (facts : List FactValue) (table : List FieldPlace) (object : ℕ) → table ≡ [] → (edge : Edge)
    → (IsEdge ids facts edge × (edge.from ≡ object))
    ↔ (IsEdge ids facts edge × (edge.from ≡ object) × IsKept table facts edge)
all_from ids facts table object none edge = (
  λ is. (is.0, is.1, all_kept table facts edge none),
  λ is. (is.0, is.1),
)
