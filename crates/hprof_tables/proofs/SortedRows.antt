-- Rows in order of key: the laws of one list, and of two as one.
use Rattle.std.proofs.Common.{◌≡◌, ◌<◌, ◌≤◌, ◌+◌, ◌++◌, ◌≢◌, ℕ, Bool, true, false, cond, eqb, ltb, List, [], ◌∷◌, length, Option, Some}
use Rattle.std.proofs.Common.{None, refl, sym, ap, subst, ◌∙◌, inl, inr, arith}
use Rattle.std.specs.Prelude.{is_some}
use Rattle.std.specs.declared.cmp.Ordering.TheVariants.{Less, Equal, Greater}
use Rattle.std.specs.List.Sorted.{IsStrictlySortedBy}
use Rattle.std.specs.Map.{keys_of}
use Rattle.std.specs.Option.{option_or}
use Rattle.std.specs.Ordering.{nat_cmp}
use Rattle.std.specs.BTreeMap.{is_at, insert_entry}
use Rattle.std.specs.Cmp.{unsigned_tied, nat_cmp_is}
use Rattle.std.proofs.lemmas.Bool.{ne_eqb, eq-eqb, ltb-true, ltb-false, cases_order, cond_both}
use Rattle.std.proofs.lemmas.Map.Keys.{sorted_head, sorted_tail}
use Rattle.hprof_tables.specs.SortedRows.{row_at, IsAscending, Misses, end_of, merged, AreKeys}

pub less_from : (key other : ℕ) → nat_cmp key other ≡ Less → key < other
less_from key other e = elim (cases_order key other) [
  | inl same ↦ let e2 : Equal ≡ nat_cmp key other = nat_cmp_is key other Equal same in absurd cc
  | inr apart ↦ elim apart [
    | inl lt ↦ lt
    | inr gt ↦ let e2 : Greater ≡ nat_cmp key other = nat_cmp_is key other Greater gt in absurd cc
  ]
]

-- what is found in neither, or in one
or_found : {V : Type 0} (t : Bool) (row : V) (found other : Option V)
    → cond t (Some row) (option_or found other) ≡ option_or (cond t (Some row) found) other
or_found true row found other = refl
or_found false row found other = refl

pub is_none : {V : Type 0} (found : Option V) → is_some found ≡ false → found ≡ None
is_none None e = refl
is_none (Some row) e = cc

module _ {V : Type 0} where
  -- ---- each key of a list of rows

  pub AreKeys-weaker : (P Q : ℕ → Type 0) (rows : List (ℕ × V)) → ((key : ℕ) → P key → Q key) → AreKeys P rows → AreKeys Q rows
  AreKeys-weaker P Q [] more all = tt
  AreKeys-weaker P Q (row ∷ rows) more all = (more row.0 all.0, AreKeys-weaker P Q rows more all.1)

  -- ---- ascending

  pub ascending_head : (row : ℕ × V) (rows : List (ℕ × V)) → IsAscending (row ∷ rows) → AreKeys (λ key. row.0 < key) rows
  ascending_head row rows up =
      AreKeys-weaker (λ key. nat_cmp row.0 key ≡ Less) (λ key. row.0 < key) rows (less_from row.0)
      (sorted_head nat_cmp row.0 (keys_of rows) up)

  pub ascending_tail : (row : ℕ × V) (rows : List (ℕ × V)) → IsAscending (row ∷ rows) → IsAscending rows
  ascending_tail row rows up = sorted_tail nat_cmp row.0 (keys_of rows) up

  pub ascending_cons : (row : ℕ × V) (rows : List (ℕ × V)) → AreKeys (λ key. row.0 < key) rows → IsAscending rows → IsAscending (row ∷ rows)
  unfolding IsStrictlySortedBy
  ascending_cons row rows above up =
      (AreKeys-weaker (λ key. row.0 < key) (λ key. nat_cmp row.0 key ≡ Less) rows (λ key lt. sym (nat_cmp_is row.0 key Less lt)) above, up)

  -- ---- looking up

  pub row_at-cons : (key : ℕ) (row : ℕ × V) (rows : List (ℕ × V))
      → row_at key (row ∷ rows) ≡ cond (eqb key row.0) (Some row.1) (row_at key rows)
  row_at-cons key row rows = ap (λ (t : Bool). cond t (Some row.1) (row_at key rows)) (unsigned_tied key row.0)

  pub row_at-here : (key : ℕ) (row : ℕ × V) (rows : List (ℕ × V)) → key ≡ row.0 → row_at key (row ∷ rows) ≡ Some row.1
  row_at-here key row rows same =
      row_at-cons key row rows ∙ ap (λ (t : Bool). cond t (Some row.1) (row_at key rows)) (eq-eqb key row.0 same)

  pub row_at-past : (key : ℕ) (row : ℕ × V) (rows : List (ℕ × V)) → key ≢ row.0 → row_at key (row ∷ rows) ≡ row_at key rows
  row_at-past key row rows other =
      row_at-cons key row rows ∙ ap (λ (t : Bool). cond t (Some row.1) (row_at key rows)) (ne_eqb key row.0 other)

  -- no key of the rows is this one
  pub row_at-none : (key : ℕ) (rows : List (ℕ × V)) → AreKeys (λ other. key ≢ other) rows → row_at key rows ≡ None
  row_at-none key [] others = refl
  row_at-none key (row ∷ rows) others = row_at-past key row rows others.0 ∙ row_at-none key rows others.1

  pub Misses-head : (key : ℕ) (row : ℕ × V) (rows : List (ℕ × V)) → Misses (row ∷ rows) key → key ≢ row.0
  Misses-head key row rows missed same = let e : true ≡ false = sym (ap is_some (row_at-here key row rows same)) ∙ missed in absurd cc

  pub Misses-tail : (key : ℕ) (row : ℕ × V) (rows : List (ℕ × V)) → Misses (row ∷ rows) key → Misses rows key
  Misses-tail key row rows missed = sym (ap is_some (row_at-past key row rows (Misses-head key row rows missed))) ∙ missed

  -- ---- one list after another

  pub row_at-append : (key : ℕ) (rows others : List (ℕ × V)) → row_at key (rows ++ others) ≡ option_or (row_at key rows) (row_at key others)
  row_at-append key [] others = refl
  row_at-append key (first ∷ rows) others =
      ap (λ (found : Option V). cond (is_at (nat_cmp key) first.0) (Some first.1) found) (row_at-append key rows others)
      ∙ or_found (is_at (nat_cmp key) first.0) first.1 (row_at key rows) (row_at key others)

  pub end_of-append : (rows : List (ℕ × V)) (row : ℕ × V) → end_of (rows ++ row ∷ []) ≡ row.0 + 1
  end_of-append [] row = refl
  end_of-append (first ∷ []) row = refl
  end_of-append (first ∷ next ∷ rows) row = end_of-append (next ∷ rows) row

  -- each key is below the end
  pub below_end : (rows : List (ℕ × V)) → IsAscending rows → AreKeys (λ key. key < end_of rows) rows
  below_end [] up = tt
  below_end (row ∷ []) up = (omega arith, tt)
  below_end (row ∷ next ∷ rows) up =
      let rest = below_end (next ∷ rows) (ascending_tail row (next ∷ rows) up) in
      let lt : row.0 < next.0 = (ascending_head row (next ∷ rows) up).0 in
      let le : next.0 < end_of (next ∷ rows) = rest.0 in
      (omega arith, rest)

  -- ---- putting in

  pub insert-all : (P : ℕ → Type 0) (rows : List (ℕ × V)) (key : ℕ) (row : V) → AreKeys P rows → P key
      → AreKeys P (insert_entry nat_cmp rows key row)
  insert-all P [] key row all new = (new, tt)
  insert-all P (first ∷ rows) key row all new = elim (cases_order key first.0) [
    | inl same ↦ rw (← nat_cmp_is key first.0 Equal same) (all.0, all.1)
    | inr apart ↦ elim apart [
      | inl lt ↦ rw (← nat_cmp_is key first.0 Less lt) (new, all)
      | inr gt ↦ rw (← nat_cmp_is key first.0 Greater gt) (all.0, insert-all P rows key row all.1 new)
    ]
  ]

  pub insert-ascending : (rows : List (ℕ × V)) (key : ℕ) (row : V) → IsAscending rows → IsAscending (insert_entry nat_cmp rows key row)
  insert-ascending [] key row up = ascending_cons (key, row) [] tt up
  insert-ascending (first ∷ rows) key row up =
      let above = ascending_head first rows up in
      let rest = ascending_tail first rows up in
      elim (cases_order key first.0) [
        | inl same ↦ rw (← nat_cmp_is key first.0 Equal same) (ascending_cons (first.0, row) rows above rest)
        | inr apart ↦ elim apart [
          | inl lt ↦ rw (← nat_cmp_is key first.0 Less lt) (ascending_cons (key, row) (first ∷ rows)
              (lt, AreKeys-weaker (λ k. first.0 < k) (λ k. key < k) rows (λ k h. omega arith) above) up)
          | inr gt ↦ rw (← nat_cmp_is key first.0 Greater gt) (ascending_cons first (insert_entry nat_cmp rows key row)
              (insert-all (λ k. first.0 < k) rows key row above gt) (insert-ascending rows key row rest))
        ]
      ]

  pub insert-row : (sought : ℕ) (rows : List (ℕ × V)) (key : ℕ) (row : V)
      → row_at sought (insert_entry nat_cmp rows key row) ≡ cond (eqb sought key) (Some row) (row_at sought rows)
  insert-row sought [] key row = row_at-cons sought (key, row) []
  insert-row sought (first ∷ rows) key row = elim (cases_order key first.0) [
    | inl same ↦ rw (← nat_cmp_is key first.0 Equal same)
        (row_at-cons sought (first.0, row) rows ∙ replaced same
        ∙ ap (λ (found : Option V). cond (eqb sought key) (Some row) found) (sym (row_at-cons sought first rows)))
    | inr apart ↦ elim apart [
      | inl lt ↦ rw (← nat_cmp_is key first.0 Less lt) (row_at-cons sought (key, row) (first ∷ rows))
      | inr gt ↦ rw (← nat_cmp_is key first.0 Greater gt)
          (row_at-cons sought first (insert_entry nat_cmp rows key row)
          ∙ ap (λ (found : Option V). cond (eqb sought first.0) (Some first.1) found) (insert-row sought rows key row)
          ∙ swapped gt
          ∙ ap (λ (found : Option V). cond (eqb sought key) (Some row) found) (sym (row_at-cons sought first rows)))
    ]
  ]
    where
      by_tests : (t u : Bool) → t ≡ u
          → cond u (Some row) (row_at sought rows) ≡ cond t (Some row) (cond u (Some first.1) (row_at sought rows))
      by_tests true true e = refl
      by_tests false false e = refl
      by_tests true false e = cc
      by_tests false true e = cc

      replaced : key ≡ first.0 → cond (eqb sought first.0) (Some row) (row_at sought rows)
          ≡ cond (eqb sought key) (Some row) (cond (eqb sought first.0) (Some first.1) (row_at sought rows))
      replaced same = by_tests (eqb sought key) (eqb sought first.0) (ap (λ (k : ℕ). eqb sought k) same)

      swapped : first.0 < key → cond (eqb sought first.0) (Some first.1) (cond (eqb sought key) (Some row) (row_at sought rows))
          ≡ cond (eqb sought key) (Some row) (cond (eqb sought first.0) (Some first.1) (row_at sought rows))
      swapped gt = elim (cases_order sought key) [
        | inl here ↦ let past : sought ≢ first.0 = λ e. omega arith in rw (eq-eqb sought key here, ne_eqb sought first.0 past) refl
        | inr other ↦
            let apart : sought ≢ key = λ e. elim other [ inl lt ↦ omega arith | inr gt2 ↦ omega arith ] in
            rw (ne_eqb sought key apart) refl
      ]

  -- ---- two lists as one

  merged-all : (P : ℕ → Type 0) (rows others : List (ℕ × V)) → AreKeys P rows → AreKeys P others → AreKeys P (merged rows others)
  merged-all P [] others all more = more
  merged-all P (row ∷ rows) [] all more = (all.0, merged-all P rows [] all.1 tt)
  merged-all P (row ∷ rows) (other ∷ others) all more =
      cond_both (ltb row.0 other.0) (row ∷ merged rows (other ∷ others)) (other ∷ merged (row ∷ rows) others) (AreKeys P)
      (λ _. (all.0, merged-all P rows (other ∷ others) all.1 more))
      (λ _. (more.0, merged-all P (row ∷ rows) others all more.1))

  pub merged-row : (key : ℕ) (rows others : List (ℕ × V)) → AreKeys (Misses rows) others
      → row_at key (merged rows others) ≡ option_or (row_at key rows) (row_at key others)
  merged-row key [] others missed = refl
  merged-row key (row ∷ rows) [] missed =
      ap (λ (found : Option V). cond (is_at (nat_cmp key) row.0) (Some row.1) found) (merged-row key rows [] tt)
      ∙ or_found (is_at (nat_cmp key) row.0) row.1 (row_at key rows) None
  merged-row key (row ∷ rows) (other ∷ others) missed =
      cond_both (ltb row.0 other.0) (row ∷ merged rows (other ∷ others)) (other ∷ merged (row ∷ rows) others)
      (λ (l : List (ℕ × V)). row_at key l ≡ option_or (row_at key (row ∷ rows)) (row_at key (other ∷ others)))
      (λ _.
      ap (λ (found : Option V). cond (is_at (nat_cmp key) row.0) (Some row.1) found)
      (merged-row key rows (other ∷ others) (AreKeys-weaker (Misses (row ∷ rows)) (Misses rows) (other ∷ others)
      (λ k. Misses-tail k row rows) missed))
      ∙ or_found (is_at (nat_cmp key) row.0) row.1 (row_at key rows) (row_at key (other ∷ others)))
      (λ _. elim (cases_order key other.0) [
        | inl here ↦
            row_at-here key other (merged (row ∷ rows) others) here
            ∙ sym (row_at-here key other others here)
            ∙ sym (ap (λ (found : Option V). option_or found (row_at key (other ∷ others)))
            (subst (λ (k : ℕ). row_at k (row ∷ rows) ≡ None) (sym here) (is_none (row_at other.0 (row ∷ rows)) missed.0)))
        | inr apart ↦
            let past : key ≢ other.0 = λ e. elim apart [ inl lt ↦ omega arith | inr gt ↦ omega arith ] in
            row_at-past key other (merged (row ∷ rows) others) past
            ∙ merged-row key (row ∷ rows) others missed.1
            ∙ ap (option_or (row_at key (row ∷ rows))) (sym (row_at-past key other others past))
      ])

  pub merged-ascending : (rows others : List (ℕ × V)) → IsAscending rows → IsAscending others → AreKeys (Misses rows) others
      → IsAscending (merged rows others)
  merged-ascending [] others up more missed = more
  merged-ascending (row ∷ rows) [] up more missed =
      ascending_cons row (merged rows []) (merged-all (λ k. row.0 < k) rows [] (ascending_head row rows up) tt)
      (merged-ascending rows [] (ascending_tail row rows up) more tt)
  merged-ascending (row ∷ rows) (other ∷ others) up more missed =
      let above = ascending_head row rows up in
      let above_other = ascending_head other others more in
      cond_both (ltb row.0 other.0) (row ∷ merged rows (other ∷ others)) (other ∷ merged (row ∷ rows) others) IsAscending
      (λ e.
      let lt : row.0 < other.0 = ltb-true row.0 other.0 e in
      ascending_cons row (merged rows (other ∷ others))
      (merged-all (λ k. row.0 < k) rows (other ∷ others) above (
        lt,
        AreKeys-weaker (λ k. other.0 < k) (λ k. row.0 < k) others
            (λ k h. omega arith) above_other,
      ))
      (merged-ascending rows (other ∷ others) (ascending_tail row rows up) more
      (AreKeys-weaker (Misses (row ∷ rows)) (Misses rows) (other ∷ others) (λ k. Misses-tail k row rows) missed)))
      (λ e.
      let le : other.0 ≤ row.0 = ltb-false row.0 other.0 e in
      let apart : other.0 ≢ row.0 = Misses-head other.0 row rows missed.0 in
      let lt : other.0 < row.0 = omega arith in
      ascending_cons other (merged (row ∷ rows) others)
      (merged-all (λ k. other.0 < k) (row ∷ rows) others (
        lt,
        AreKeys-weaker (λ k. row.0 < k) (λ k. other.0 < k) rows
            (λ k h. omega arith) above,
      ) above_other)
      (merged-ascending (row ∷ rows) others up (ascending_tail other others more) missed.1))

  pub merged-length : (rows others : List (ℕ × V)) → length (merged rows others) ≡ length rows + length others
  merged-length [] others = omega arith
  merged-length (row ∷ rows) [] = let rest = merged-length rows [] in omega arith
  merged-length (row ∷ rows) (other ∷ others) =
      cond_both (ltb row.0 other.0) (row ∷ merged rows (other ∷ others)) (other ∷ merged (row ∷ rows) others)
      (λ (l : List (ℕ × V)). length l ≡ length (row ∷ rows) + length (other ∷ others))
      (λ _. let rest = merged-length rows (other ∷ others) in omega arith)
      (λ _. let rest = merged-length (row ∷ rows) others in omega arith)
