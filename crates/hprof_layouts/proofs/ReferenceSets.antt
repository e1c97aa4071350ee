-- What an instance refers to, as a set and in order.
use Rattle.std.specs.Prelude.{slice_get}
use Rattle.std.specs.Cmp.{nat_cmp_is}
use Rattle.std.specs.List.{AllByRecursion}
use Rattle.std.specs.List.Sorted.{IsStrictlySortedBy, IsStrictlyIncreasing}
use Rattle.std.specs.Ordering.{nat_cmp}
use Rattle.std.specs.declared.cmp.Ordering.TheVariants.{Less}
use Rattle.std.proofs.lemmas.Map.Keys.{IsStrictlyIncreasing-from_sorted}
use Rattle.std.proofs.lemmas.List.Elements.{Contains-append_left, Contains-append_right, Contains-append_cases, Contains-push}
use Rattle.std.proofs.lemmas.List.Elements.{Contains-push_cases}
use Rattle.std.proofs.Common.{◌≡◌, ℕ, zero, suc, ◌+◌, ◌<◌, Bool, true, false, cond, List, [], ◌∷◌, ◌++◌, map, length, drop, Contains, Some}
use Rattle.std.proofs.Common.{refl, sym, ap, subst, ◌∙◌, inl, inr, arith}
use Rattle.byteorder.specs.Endian.{big_number}
use Rattle.hprof_values.specs.declared.ids.IdSize.{IdSize}
use Rattle.hprof_values.specs.Basic.{width_of_basic}
use Rattle.hprof_items.specs.FactValue.{FactValue}
use Rattle.hprof_layouts.specs.declared.slot.Slot.{Slot}
use Rattle.hprof_layouts.specs.declared.field_value.FieldValue.{FieldValue}
use Rattle.hprof_layouts.specs.Fields.{HasValues, value_at, values_in, width_of_slots}
use Rattle.hprof_layouts.specs.Layout.{IsKnown}
use Rattle.hprof_layouts.specs.declared.reference.Reference.{Reference}
use Rattle.hprof_layouts.specs.OwnFields.{references_in}
use Rattle.hprof_layouts.specs.References.{HasReference, AreReferences}
use Rattle.hprof_layouts.specs.Refers.{refers}

-- an empty list has nothing
pub nothing_there : {X : Type 0} (x : X) → Contains [] x → ⊥
nothing_there x there = let lt = there.1 in omega arith

-- a list of one
pub one_there : {X : Type 0} (x y : X) → Contains (x ∷ []) y → x ≡ y
one_there x y there = elim (Contains-push_cases [] x y there) [ inl none ↦ absurd (nothing_there y none) | inr same ↦ same ]

module _ (ids : IdSize) where
  -- ---- as a set

  -- a value that refers to that stands at the place, where so many fields stand before the first
  pub record InValues (place : ℕ) (slots : List Slot) (bytes : List ℕ) (reference : Reference) : Type 0 where
    pub at : ℕ
    pub value : FieldValue
    pub place_is : reference.place ≡ place + at
    pub there : slice_get (values_in ids slots bytes) at ≡ Some value
    pub refers_is : refers value.basic ≡ true
    pub to_is : value.bits ≡ reference.to

  -- what refers to something at the first place
  abbrev first_of : ℕ → Slot → List ℕ → Bool → List Reference
  first_of place slot bytes t = cond t (record { place = place; to = big_number (width_of_basic ids slot.basic) bytes } ∷ []) []

  in_first : (place : ℕ) (slot : Slot) (slots : List Slot) (bytes : List ℕ) (reference : Reference) (t : Bool) → refers slot.basic ≡ t
      → Contains (first_of place slot bytes t) reference → InValues place (slot ∷ slots) bytes reference
  in_first place slot slots bytes reference false other there = absurd (nothing_there reference there)
  in_first place slot slots bytes reference true is_so there =
      let same : record { place = place; to = big_number (width_of_basic ids slot.basic) bytes } ≡ reference =
      one_there _ reference there in
      record {
        at = 0;
        value = value_at ids slot bytes;
        place_is = sym (ap (λ (r : Reference). r.place) same) ∙ omega arith;
        there = refl;
        refers_is = is_so;
        to_is = ap (λ (r : Reference). r.to) same;
      }

  pub in_values : (place : ℕ) (slots : List Slot) (bytes : List ℕ) (reference : Reference)
      → Contains (references_in ids place slots bytes) reference → InValues place slots bytes reference
  in_values place [] bytes reference there = absurd (nothing_there reference there)
  in_values place (slot ∷ slots) bytes reference there =
      let behind = drop (width_of_basic ids slot.basic) bytes in
      elim (Contains-append_cases (first_of place slot bytes (refers slot.basic)) (references_in ids (place + 1) slots behind) reference
      there) [
        | inl here ↦ in_first place slot slots bytes reference (refers slot.basic) refl here
        | inr later ↦
            let is = in_values (place + 1) slots behind reference later in
            let places : reference.place ≡ place + suc is.at = let e = is.place_is in omega arith in
            record { at = suc is.at; value = is.value; place_is = places; there = is.there; refers_is = is.refers_is; to_is = is.to_is }
      ]

  -- the value at a place
  pub values_in-there : (place : ℕ) (slots : List Slot) (bytes : List ℕ) (at : ℕ) (value : FieldValue)
      → slice_get (values_in ids slots bytes) at ≡ Some value → refers value.basic ≡ true
      → Contains (references_in ids place slots bytes) (record { place = place + at; to = value.bits })
  values_in-there place [] bytes at value there refers_value = absurd cc
  values_in-there place (slot ∷ slots) bytes zero value there refers_value =
      let same : value_at ids slot bytes ≡ value = cc in
      let refers_slot : refers slot.basic ≡ true = ap (λ (v : FieldValue). refers v.basic) same ∙ refers_value in
      let rest = references_in ids (place + 1) slots (drop (width_of_basic ids slot.basic) bytes) in
      let first : Reference = record { place = place; to = big_number (width_of_basic ids slot.basic) bytes } in
      let is : first ≡ record { place = place + 0; to = value.bits } =
      ap (λ (n : ℕ). record { place = n; to = big_number (width_of_basic ids slot.basic) bytes })
      (let e : place ≡ place + 0 = omega arith in e)
      ∙ ap (λ (v : FieldValue). record { place = place + 0; to = v.bits }) same in
      subst (λ (r : Reference). Contains (first_of place slot bytes (refers slot.basic) ++ rest) r) is
      (subst (λ (t : Bool). Contains (first_of place slot bytes t ++ rest) first) (sym refers_slot)
      (Contains-append_left (first ∷ []) rest first (Contains-push [] first)))
  values_in-there place (slot ∷ slots) bytes (suc at) value there refers_value =
      let behind = drop (width_of_basic ids slot.basic) bytes in
      let places : (place + 1) + at ≡ place + suc at = omega arith in
      Contains-append_right (first_of place slot bytes (refers slot.basic)) (references_in ids (place + 1) slots behind)
      (record { place = place + suc at; to = value.bits })
      (subst (λ (p : ℕ). Contains (references_in ids (place + 1) slots behind) (record { place = p; to = value.bits })) places
      (values_in-there (place + 1) slots behind at value there refers_value))

  -- ---- in order

  places_of : List Reference → List ℕ
  places_of references = map (λ reference. reference.place) references

  all_above : (least place : ℕ) (slots : List Slot) (bytes : List ℕ) → least < place
      → AllByRecursion (λ other. nat_cmp least other ≡ Less) (map (λ (r : Reference). r.place) (references_in ids place slots bytes))
  all_above least place [] bytes lt = tt
  all_above least place (slot ∷ slots) bytes lt =
      let behind = drop (width_of_basic ids slot.basic) bytes in
      let rest = all_above least (place + 1) slots behind (omega arith) in
      elim (refers slot.basic) as (λ t. AllByRecursion (λ other. nat_cmp least other ≡ Less)
      (map (λ (r : Reference). r.place) (first_of place slot bytes t ++ references_in ids (place + 1) slots behind))) [
        | true ↦ (sym (nat_cmp_is least place Less lt), rest)
        | false ↦ rest
      ]

  sorted : (place : ℕ) (slots : List Slot) (bytes : List ℕ)
      → IsStrictlySortedBy nat_cmp (map (λ (r : Reference). r.place) (references_in ids place slots bytes))
  unfolding IsStrictlySortedBy
  sorted place [] bytes = tt
  sorted place (slot ∷ slots) bytes =
      let behind = drop (width_of_basic ids slot.basic) bytes in
      let rest = sorted (place + 1) slots behind in
      elim (refers slot.basic) as (λ t. IsStrictlySortedBy nat_cmp
      (map (λ (r : Reference). r.place) (first_of place slot bytes t ++ references_in ids (place + 1) slots behind))) [
        | true ↦ (all_above place (place + 1) slots behind (omega arith), rest)
        | false ↦ rest
      ]

  pub references_in-ascending : (place : ℕ) (slots : List Slot) (bytes : List ℕ)
      → IsStrictlyIncreasing (map (λ reference. reference.place) (references_in ids place slots bytes))
  references_in-ascending place slots bytes = IsStrictlyIncreasing-from_sorted _ (sorted place slots bytes)

-- ---- what is answered

module _ (ids : IdSize) (facts : List FactValue) (class : ℕ) (bytes : List ℕ) where
  -- where the layout is known and fits, it is what the slots refer to
  pub are_references : (slots : List Slot) → IsKnown facts class slots → width_of_slots ids slots ≡ length bytes
      → ((others : List Slot) → IsKnown facts class others → others ≡ slots)
      → AreReferences ids facts class bytes (references_in ids 0 slots bytes)
  are_references slots known fills one = record {
    each = λ reference. (there reference, back reference);
    ascending = references_in-ascending ids 0 slots bytes;
  } where
    there : (reference : Reference) → Contains (references_in ids 0 slots bytes) reference → HasReference ids facts class bytes reference
    there reference here =
        let is = in_values ids 0 slots bytes reference here in
        let place : is.at ≡ reference.place = let e = is.place_is in omega arith in
        record {
          values = values_in ids slots bytes;
          values_are = record { slots = slots; known = known; fills = fills; values_are = refl };
          value = is.value;
          there = subst (λ (at : ℕ). slice_get (values_in ids slots bytes) at ≡ Some is.value) place is.there;
          refers_is = is.refers_is;
          to_is = is.to_is;
        }

    back : (reference : Reference) → HasReference ids facts class bytes reference → Contains (references_in ids 0 slots bytes) reference
    back reference has =
        let same : has.values ≡ values_in ids slots bytes =
        has.values_are.values_are ∙ ap (λ (l : List Slot). values_in ids l bytes) (one has.values_are.slots has.values_are.known) in
        let here : slice_get (values_in ids slots bytes) reference.place ≡ Some has.value =
        subst (λ (l : List FieldValue). slice_get l reference.place ≡ Some has.value) same has.there in
        let is : record { place = 0 + reference.place; to = has.value.bits } ≡ reference =
        ap (λ (n : ℕ). record { place = n; to = has.value.bits }) (let e : 0 + reference.place ≡ reference.place = omega arith in e)
        ∙ ap (λ (n : ℕ). record { place = reference.place; to = n }) has.to_is in
        subst (λ (r : Reference). Contains (references_in ids 0 slots bytes) r) is
        (values_in-there ids 0 slots bytes reference.place has.value here has.refers_is)

  -- elsewhere there is nothing
  pub no_references : ((values : List FieldValue) → HasValues ids facts class bytes values → ⊥) → AreReferences ids facts class bytes []
  no_references none = record {
    each = λ reference. (λ here. absurd (nothing_there reference here), λ has. absurd (none has.values has.values_are));
    ascending = λ k lt. absurd (omega arith);
  }
