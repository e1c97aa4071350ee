-- The rows of a key stand together in a list that is sorted by key.
use Rattle.std.specs.Prelude.{◌↔◌}
use Rattle.std.specs.List.Sorted.{IsNonDecreasingBy, IsPartitionPoint, IsPartitionedBy, IsStrictlySortedBy}
use Rattle.std.specs.List.{AllByRecursion}
use Rattle.std.specs.declared.cmp.Ordering.{Ordering}
use Rattle.std.specs.declared.cmp.Ordering.TheVariants.{Less}
use Rattle.std.proofs.Common.{◌≡◌, ℕ, zero, suc, ◌+◌, ◌-◌, ◌<◌, ◌≤◌, true, false, List, [], ◌∷◌, length, take, drop, get_or}
use Rattle.std.proofs.Common.{nat_lt, nat_le, Contains, sym, ap, ◌∙◌, inl, inr, arith, get_or-take, get_or-drop, length-drop, length-take}
use Rattle.std.proofs.Common.{ltb-true, ltb-false}
use Rattle.std.proofs.lemmas.Bool.{cases_lt, leb-true, leb-false}
use Rattle.std.proofs.lemmas.List.Sorted.{IsNonDecreasingBy-drop, IsPartitionedBy-leb, IsPartitionedBy-ltb}

module _ {X : Type 0} (key_of : X → ℕ) (rows : List X) (sorted : IsNonDecreasingBy key_of rows) (key : ℕ) where
  pub cut_below : IsPartitionedBy (λ row. nat_lt (key_of row) key) rows
  cut_below = IsPartitionedBy-ltb key_of rows key sorted

  pub cut_up_to : (start : ℕ) → IsPartitionedBy (λ row. nat_le (key_of row) key) (drop start rows)
  cut_up_to start =
      IsPartitionedBy-leb key_of (drop start rows) key
      (IsNonDecreasingBy-drop key_of start rows sorted)

  module _ (start count : ℕ) (within : start ≤ length rows) (count_within : count ≤ length (drop start rows))
      (first : IsPartitionPoint (λ row. nat_lt (key_of row) key ≡ true) (λ row. nat_lt (key_of row) key ≡ false) rows start)
      (last : IsPartitionPoint (λ row. nat_le (key_of row) key ≡ true) (λ row. nat_le (key_of row) key ≡ false) (drop start rows)
      count) where
    abbrev run : List X
    run = take count (drop start rows)

    long : (length run ≡ count) × (start + count ≤ length rows)
    long =
        let cut = length-drop start rows in
        let taken = length-take count (drop start rows) in
        (omega (arith, cut, taken, count_within), omega (arith, cut, count_within, within))

    at_run : (place : ℕ) (d : X) → place < count → get_or run place d ≡ get_or rows (start + place) d
    at_run place d below = get_or-take count (drop start rows) place d below ∙ get_or-drop start rows place d

    of_it : (place : ℕ) (d : X) → place < count → key_of (get_or rows (start + place) d) ≡ key
    of_it place d below =
        let room = long.1 in
        let no_less = ltb-false _ _ (first.1 (start + place) d (omega arith) (omega arith)) in
        let up_to = leb-true _ _ (last.0 place d (omega arith) below) in
        let same = ap key_of (get_or-drop start rows place d) in
        omega (arith, no_less, up_to, same)

    there : (row : X) → Contains run row → Contains rows row × (key_of row ≡ key)
    there row has =
        let counted = long.0 in
        let room = long.1 in
        let below : has.0 < count = omega (arith, counted, has.1) in
        let same = sym (at_run has.0 row below) ∙ has.2 in (
          (start + has.0, omega arith, same),
          ap (λ (f : X). key_of f) (sym same) ∙ of_it has.0 row below,
        )

    at_or_past : (row : X) (place : ℕ) → place < length rows → get_or rows place row ≡ row → key_of row ≡ key
        → start ≤ place
    at_or_past row place below is of = elim (cases_lt place start) [
      | inl early ↦
          let less = ltb-true _ _ (first.0 place row (omega arith) early) in
          let of_here = ap (λ (f : X). key_of f) is in
          absurd (omega (arith, less, of_here, of))
      | inr up ↦ up
    ]

    in_count : (row : X) (place : ℕ) → start + place < length rows → get_or rows (start + place) row ≡ row
        → key_of row ≡ key → place < count
    in_count row place below is of = elim (cases_lt place count) [
      | inl early ↦ early
      | inr past ↦
          let cut = length-drop start rows in
          let greater = leb-false _ _ (last.1 place row past (omega (arith, cut, below))) in
          let dropped = ap (λ (f : X). key_of f) (get_or-drop start rows place row) in
          let of_here = ap (λ (f : X). key_of f) is in
          absurd (omega (arith, greater, dropped, of_here, of))
    ]

    back : (row : X) → Contains rows row × (key_of row ≡ key) → Contains run row
    back row both =
        let has = both.0 in
        let on = at_or_past row has.0 has.1 has.2 both.1 in
        let same : start + (has.0 - start) ≡ has.0 = omega (arith, on) in
        let here : get_or rows (start + (has.0 - start)) row ≡ row = ap (λ (n : ℕ). get_or rows n row) same ∙ has.2 in
        let below = has.1 in
        let within_count = in_count row (has.0 - start) (omega (arith, same, below)) here both.1 in
        let counted = long.0 in
        (has.0 - start, omega (arith, counted, within_count), at_run (has.0 - start) row within_count ∙ here)

    pub run_exact : (row : X) → Contains run row ↔ (Contains rows row × (key_of row ≡ key))
    run_exact row = (there row, back row)

-- ---- what is sorted strictly

module _ {X : Type 0} where
  all_at : (P : X → Type 0) (rows : List X) (d : X) (place : ℕ) → AllByRecursion P rows → place < length rows → P (get_or rows place d)
  all_at P [] d place all below = absurd (omega (arith, below))
  all_at P (row ∷ rows) d zero all below = all.0
  all_at P (row ∷ rows) d (suc place) all below = all_at P rows d place all.1 (omega (arith, below))

  all_taken : (P : X → Type 0) (count : ℕ) (rows : List X) → AllByRecursion P rows → AllByRecursion P (take count rows)
  all_taken P zero rows all = tt
  all_taken P (suc count) [] all = tt
  all_taken P (suc count) (row ∷ rows) all = (all.0, all_taken P count rows all.1)

  module _ (R : X → X → Ordering) where
    sorted_dropped : (count : ℕ) (rows : List X) → IsStrictlySortedBy R rows → IsStrictlySortedBy R (drop count rows)
    unfolding IsStrictlySortedBy
    sorted_dropped zero rows sorted = sorted
    sorted_dropped (suc count) [] sorted = tt
    sorted_dropped (suc count) (row ∷ rows) sorted = sorted_dropped count rows sorted.1

    sorted_taken : (count : ℕ) (rows : List X) → IsStrictlySortedBy R rows → IsStrictlySortedBy R (take count rows)
    unfolding IsStrictlySortedBy
    sorted_taken zero rows sorted = tt
    sorted_taken (suc count) [] sorted = tt
    sorted_taken (suc count) (row ∷ rows) sorted =
        (all_taken (λ other. R row other ≡ Less) count rows sorted.0, sorted_taken count rows sorted.1)

    pub run_sorted : (start count : ℕ) (rows : List X) → IsStrictlySortedBy R rows → IsStrictlySortedBy R (take count (drop start rows))
    run_sorted start count rows sorted = sorted_taken count (drop start rows) (sorted_dropped start rows sorted)

    -- if what comes before has no greater key, the keys do not fall
    pub keys_ascend : (key_of : X → ℕ) → ((one other : X) → R one other ≡ Less → key_of one ≤ key_of other) → (rows : List X)
        → IsStrictlySortedBy R rows → IsNonDecreasingBy key_of rows
    unfolding IsStrictlySortedBy
    keys_ascend key_of keeps [] sorted i j d le within = absurd (omega (arith, within))
    keys_ascend key_of keeps (row ∷ rows) sorted zero zero d le within = omega arith
    keys_ascend key_of keeps (row ∷ rows) sorted zero (suc j) d le within =
        keeps row (get_or rows j d) (all_at (λ other. R row other ≡ Less) rows d j sorted.0 (omega (arith, within)))
    keys_ascend key_of keeps (row ∷ rows) sorted (suc i) zero d le within = absurd (omega (arith, le))
    keys_ascend key_of keeps (row ∷ rows) sorted (suc i) (suc j) d le within =
        keys_ascend key_of keeps rows sorted.1 i j d (omega (arith, le)) (omega (arith, within))
