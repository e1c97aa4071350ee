-- Rows whose keys are new, taken into those of a table.
use Rattle.std.proofs.Common.{◌≡◌, ◌+◌, ◌≢◌, ◌<◌, ◌⊎◌, ℕ, List, [], ◌∷◌, length, Option, Some, None, refl, sym, ap, subst, ◌∙◌, inl, inr}
use Rattle.std.proofs.Common.{arith}
use Rattle.std.specs.Prelude.{is_some}
use Rattle.std.specs.List.{AllByRecursion}
use Rattle.std.specs.Option.{option_or}
use Rattle.std.proofs.lemmas.Bool.{cases_order}
use Rattle.hprof_tables.specs.SortedRows.{row_at, IsAscending, Misses, merged, AreKeys}
use Rattle.hprof_tables.specs.Union.{AreApart, AreUnion}
use Rattle.hprof_tables.proofs.SortedRows.{ascending_head, ascending_tail, row_at-here}
use Rattle.hprof_tables.proofs.SortedRows.{row_at-past, merged-row, merged-ascending, merged-length}
use Rattle.hprof_tables.proofs.SortedList.{one_list}
use Rattle.hprof_tables.proofs.PageRows.{AreKeys-both}

module _ {V : Type 0} where
  -- ---- rows that have no key in common

  -- what is found, or else nothing
  or_none : (found : Option V) → option_or found None ≡ found
  or_none None = refl
  or_none (Some row) = refl

  -- what is found is not nothing
  found-none : (row : V) → Some row ≡ None → ⊥
  found-none row e = cc

  -- behind the first row the others have none in common either
  apart_tail : (rows : List (ℕ × V)) (other : ℕ × V) (others : List (ℕ × V)) → AreApart rows (other ∷ others) → AreApart rows others
  apart_tail rows other others apart key = elim (cases_order key other.0) [
    | inl here ↦ elim (apart key) [
      | inl none ↦ inl none
      | inr none ↦ absurd (found-none other.1 (sym (row_at-here key other others here) ∙ none))
    ]
    | inr off ↦
        let past : key ≢ other.0 = λ e. elim off [ inl lt ↦ omega arith | inr gt ↦ omega arith ] in
        elim (apart key) [
          | inl none ↦ inl none
          | inr none ↦ inr (sym (row_at-past key other others past) ∙ none)
        ]
  ]

  -- the first list misses each key of the second
  pub apart_all : (rows others : List (ℕ × V)) → AreApart rows others → AreKeys (Misses rows) others
  apart_all rows [] apart = tt
  apart_all rows (other ∷ others) apart = (missed (apart other.0), apart_all rows others (apart_tail rows other others apart))
    where
      missed : (row_at other.0 rows ≡ None) ⊎ (row_at other.0 (other ∷ others) ≡ None) → Misses rows other.0
      missed (inl none) = ap is_some none
      missed (inr none) = absurd (found-none other.1 (sym (row_at-here other.0 other others refl) ∙ none))

  -- nothing is taken into rows
  pub nothing_taken : (rows fresh : List (ℕ × V)) → IsAscending rows → length fresh ≡ 0 → AreUnion rows fresh rows
  nothing_taken rows [] up none = record { ascends = up; each = λ key. sym (or_none (row_at key rows)) }
  nothing_taken rows (row ∷ fresh) up none = cc

  -- ---- each key of a list

  -- a row is found
  abbrev IsThere : List (ℕ × V) → ℕ → Type 0
  IsThere rows key = (row : V) × (row_at key rows ≡ Some row)

  -- each key of a list finds a row there
  all_found : (rows : List (ℕ × V)) → IsAscending rows → AreKeys (IsThere rows) rows
  all_found [] up = tt
  all_found (row ∷ rows) up = (
    (row.1, row_at-here row.0 row rows refl),
    AreKeys-both (λ key. row.0 < key) (IsThere rows) (IsThere (row ∷ rows)) rows
        (λ key lt there. let past : key ≢ row.0 = λ e. omega arith in (there.0, row_at-past key row rows past ∙ there.1))
        (ascending_head row rows up) (all_found rows (ascending_tail row rows up)),
  )

  -- and what holds of each key holds of one that is found
  key_found : (P : ℕ → Type 0) (rows : List (ℕ × V)) (key : ℕ) → AreKeys P rows → IsThere rows key → P key
  key_found P [] key all there = absurd (found-none there.0 (sym there.1))
  key_found P (row ∷ rows) key all there = elim (cases_order key row.0) [
    | inl here ↦ subst P (sym here) all.0
    | inr off ↦
        let past : key ≢ row.0 = λ e. elim off [ inl lt ↦ omega arith | inr gt ↦ omega arith ] in
        key_found P rows key all.1 (there.0, sym (row_at-past key row rows past) ∙ there.1)
  ]

  -- ---- the rows of both

  -- two lists without a common key are one
  pub merged_union : (rows fresh : List (ℕ × V)) → IsAscending rows → IsAscending fresh → AreApart rows fresh
      → AreUnion rows fresh (merged rows fresh)
  merged_union rows fresh up more apart = record {
    ascends = merged-ascending rows fresh up more (apart_all rows fresh apart);
    each = λ key. merged-row key rows fresh (apart_all rows fresh apart);
  }

  -- both have as many rows as they have apart
  pub union-length : (rows fresh all : List (ℕ × V)) → IsAscending rows → IsAscending fresh → AreApart rows fresh → AreUnion rows fresh all
      → length all ≡ length rows + length fresh
  union-length rows fresh all up more apart union =
      let one = merged_union rows fresh up more apart in
      ap (λ (l : List (ℕ × V)). length l)
      (one_list all (merged rows fresh) union.ascends one.ascends (λ key. union.each key ∙ sym (one.each key)))
      ∙ merged-length rows fresh

  -- ---- each row of a union is one of both

  abbrev pub AllRows : (ℕ → V → Type 0) → List (ℕ × V) → Type 0
  AllRows P rows = AllByRecursion (λ row. P row.0 row.1) rows

  row_found : (P : ℕ → V → Type 0) (rows : List (ℕ × V)) (key : ℕ) (row : V) → AllRows P rows → row_at key rows ≡ Some row → P key row
  row_found P [] key row all e = absurd (found-none row (sym e))
  row_found P (first ∷ rows) key row all e = elim (cases_order key first.0) [
    | inl here ↦
        let both : Some first.1 ≡ Some row = sym (row_at-here key first rows here) ∙ e in
        let it : first.1 ≡ row = cc in
        subst (λ (k : ℕ). P k row) (sym here) (subst (P first.0) it all.0)
    | inr off ↦
        let past : key ≢ first.0 = λ same. elim off [ inl lt ↦ omega arith | inr gt ↦ omega arith ] in
        row_found P rows key row all.1 (sym (row_at-past key first rows past) ∙ e)
  ]

  pub all_rows : (P : ℕ → V → Type 0) (rows : List (ℕ × V)) → IsAscending rows → ((key : ℕ) (row : V) → row_at key rows ≡ Some row
      → P key row) → AllRows P rows
  all_rows P [] up each = tt
  all_rows P (first ∷ rows) up each = (
    each first.0 first.1 (row_at-here first.0 first rows refl),
    all_rows P rows (ascending_tail first rows up) (λ key row e. each key row (row_at-past key first rows (behind key row e) ∙ e)),
  )
    where
      behind : (key : ℕ) (row : V) → row_at key rows ≡ Some row → key ≢ first.0
      behind key row e =
          let lt : first.0 < key = key_found (λ k. first.0 < k) rows key (ascending_head first rows up) (row, e) in
          λ same. omega arith

  pub union_rows : (P : ℕ → V → Type 0) (rows fresh all : List (ℕ × V)) → AllRows P rows → AllRows P fresh → AreUnion rows fresh all
      → AllRows P all
  union_rows P rows fresh all old new union =
      all_rows P all union.ascends (λ key row e. either key row (row_at key rows) refl (sym (union.each key) ∙ e))
    where
      either : (key : ℕ) (row : V) (found : Option V) → row_at key rows ≡ found → option_or (row_at key rows) (row_at key fresh)
          ≡ Some row → P key row
      either key row None is e =
          row_found P fresh key row new (sym (ap (λ (f : Option V). option_or f (row_at key fresh)) is) ∙ e)
      either key row (Some one) is e =
          row_found P rows key row old (is ∙ sym (ap (λ (f : Option V). option_or f (row_at key fresh)) is) ∙ e)
