-- The fields of a class stand together in a list that is sorted by class.
use Rattle.std.specs.Prelude.{◌↔◌}
use Rattle.std.specs.List.Sorted.{IsNonDecreasingBy, IsPartitionPoint, IsPartitionedBy}
use Rattle.std.proofs.Common.{◌≡◌, ℕ, ◌+◌, ◌-◌, ◌<◌, ◌≤◌, true, false, List, length, take, drop, get_or}
use Rattle.std.proofs.Common.{nat_lt, nat_le, Contains, sym, ap, ◌∙◌, inl, inr, arith, get_or-take, get_or-drop, length-drop, length-take}
use Rattle.std.proofs.Common.{ltb-true, ltb-false}
use Rattle.std.proofs.lemmas.Bool.{cases_lt, leb-true, leb-false}
use Rattle.std.proofs.lemmas.List.Sorted.{IsNonDecreasingBy-drop, IsPartitionedBy-leb, IsPartitionedBy-ltb}
use Rattle.hprof_edges.specs.declared.field_place.FieldPlace.{FieldPlace}
use Rattle.hprof_edges.proofs.PlacesAscend.{IsNotBefore}

module _ (fields : List FieldPlace) (sorted : IsNonDecreasingBy (λ (field : FieldPlace). field.class) fields) (class : ℕ) where
  pub cut_below : IsPartitionedBy (λ field. nat_lt field.class class) fields
  cut_below = IsPartitionedBy-ltb (λ (field : FieldPlace). field.class) fields class sorted

  pub cut_up_to : (start : ℕ) → IsPartitionedBy (λ field. nat_le field.class class) (drop start fields)
  cut_up_to start =
      IsPartitionedBy-leb (λ (field : FieldPlace). field.class) (drop start fields) class
      (IsNonDecreasingBy-drop (λ (field : FieldPlace). field.class) start fields sorted)

  module _ (start count : ℕ) (within : start ≤ length fields) (count_within : count ≤ length (drop start fields))
      (first : IsPartitionPoint (λ field. nat_lt field.class class ≡ true) (λ field. nat_lt field.class class ≡ false) fields start)
      (last : IsPartitionPoint (λ field. nat_le field.class class ≡ true) (λ field. nat_le field.class class ≡ false) (drop start fields)
      count) where
    abbrev run : List FieldPlace
    run = take count (drop start fields)

    long : (length run ≡ count) × (start + count ≤ length fields)
    long =
        let cut = length-drop start fields in
        let taken = length-take count (drop start fields) in
        (omega (arith, cut, taken, count_within), omega (arith, cut, count_within, within))

    at_run : (place : ℕ) (d : FieldPlace) → place < count → get_or run place d ≡ get_or fields (start + place) d
    at_run place d below = get_or-take count (drop start fields) place d below ∙ get_or-drop start fields place d

    of_it : (place : ℕ) (d : FieldPlace) → place < count → (get_or fields (start + place) d).class ≡ class
    of_it place d below =
        let room = long.1 in
        let no_less = ltb-false _ _ (first.1 (start + place) d (omega arith) (omega arith)) in
        let up_to = leb-true _ _ (last.0 place d (omega arith) below) in
        let same = ap (λ (field : FieldPlace). field.class) (get_or-drop start fields place d) in
        omega (arith, no_less, up_to, same)

    there : (field : FieldPlace) → Contains run field → Contains fields field × (field.class ≡ class)
    there field has =
        let counted = long.0 in
        let room = long.1 in
        let below : has.0 < count = omega (arith, counted, has.1) in
        let same = sym (at_run has.0 field below) ∙ has.2 in (
          (start + has.0, omega arith, same),
          ap (λ (f : FieldPlace). f.class) (sym same) ∙ of_it has.0 field below,
        )

    at_or_past : (field : FieldPlace) (place : ℕ) → place < length fields → get_or fields place field ≡ field → field.class ≡ class
        → start ≤ place
    at_or_past field place below is of = elim (cases_lt place start) [
      | inl early ↦
          let less = ltb-true _ _ (first.0 place field (omega arith) early) in
          let of_here = ap (λ (f : FieldPlace). f.class) is in
          absurd (omega (arith, less, of_here, of))
      | inr up ↦ up
    ]

    in_count : (field : FieldPlace) (place : ℕ) → start + place < length fields → get_or fields (start + place) field ≡ field
        → field.class ≡ class → place < count
    in_count field place below is of = elim (cases_lt place count) [
      | inl early ↦ early
      | inr past ↦
          let cut = length-drop start fields in
          let greater = leb-false _ _ (last.1 place field past (omega (arith, cut, below))) in
          let dropped = ap (λ (f : FieldPlace). f.class) (get_or-drop start fields place field) in
          let of_here = ap (λ (f : FieldPlace). f.class) is in
          absurd (omega (arith, greater, dropped, of_here, of))
    ]

    back : (field : FieldPlace) → Contains fields field × (field.class ≡ class) → Contains run field
    back field both =
        let has = both.0 in
        let on = at_or_past field has.0 has.1 has.2 both.1 in
        let same : start + (has.0 - start) ≡ has.0 = omega (arith, on) in
        let here : get_or fields (start + (has.0 - start)) field ≡ field = ap (λ (n : ℕ). get_or fields n field) same ∙ has.2 in
        let below = has.1 in
        let within_count = in_count field (has.0 - start) (omega (arith, same, below)) here both.1 in
        let counted = long.0 in
        (has.0 - start, omega (arith, counted, within_count), at_run (has.0 - start) field within_count ∙ here)

    pub run_exact : (field : FieldPlace) → Contains run field ↔ (Contains fields field × (field.class ≡ class))
    run_exact field = (there field, back field)

    -- they ascend by place
    pub run_ascends : ((i j : ℕ) (d : FieldPlace) → i ≤ j → j < length fields → IsNotBefore (get_or fields i d) (get_or fields j d))
        → IsNonDecreasingBy (λ (field : FieldPlace). field.place) run
    run_ascends order i j d le within =
        let counted = long.0 in
        let room = long.1 in
        let last : j < count = omega (arith, counted, within) in
        let first : i < count = omega (arith, last, le) in
        let one = ap (λ (f : FieldPlace). f.place) (at_run i d first) in
        let other = ap (λ (f : FieldPlace). f.place) (at_run j d last) in
        let same : (get_or fields (start + i) d).class ≡ (get_or fields (start + j) d).class = of_it i d first ∙ sym (of_it j d last) in
        let rises = (order (start + i) (start + j) d (omega (arith, le)) (omega (arith, last, room))).place same in
        omega (arith, one, other, rises)
