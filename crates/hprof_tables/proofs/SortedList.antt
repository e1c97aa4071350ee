-- Two ascending lists with the same rows are one; and what holds at an error.
use Rattle.std.proofs.Common.{◌≡◌, ◌<◌, ◌≤◌, Result, Ok, Err, ◌≢◌, ℕ}
use Rattle.std.proofs.Common.{List, [], ◌∷◌, Some, None, refl, sym, ap, ◌∙◌, inl, inr, arith}
use Rattle.std.specs.Prelude.{OnErr}
use Rattle.std.proofs.lemmas.Bool.{cases_order}
use Rattle.hprof_tables.specs.SortedRows.{row_at, IsAscending}
use Rattle.hprof_tables.proofs.SortedRows.{AreKeys-weaker, ascending_head, ascending_tail, row_at-here, row_at-none, row_at-past}

-- what holds holds at an error
pub at_err : {T E : Type 0} (r : Result T E) (P : Type 0) → P → OnErr r P
at_err (Ok value) P p = tt
at_err (Err e) P p = p

-- what follows at an error
pub at_err-then : {T E : Type 0} (r : Result T E) (P Q : Type 0) → (P → Q) → OnErr r P → OnErr r Q
at_err-then (Ok value) P Q more p = tt
at_err-then (Err e) P Q more p = more p

module _ {V : Type 0} where
  -- the keys of a list are above its first, so that this one is not among them
  not_past : (row : ℕ × V) (rows : List (ℕ × V)) (key : ℕ) → IsAscending (row ∷ rows) → key ≤ row.0 → row_at key rows ≡ None
  not_past row rows key up le =
      row_at-none key rows (AreKeys-weaker (λ k. row.0 < k) (λ k. key ≢ k) rows (λ k h e. omega arith) (ascending_head row rows up))

  one_row : (row other : ℕ × V) → row.0 ≡ other.0 → row.1 ≡ other.1 → row ≡ other
  one_row row other e h =
      let with_key : ℕ → ℕ × V = λ key. (key, row.1) in
      let with_value : V → ℕ × V = λ value. (other.0, value) in
      ap with_key e ∙ ap with_value h

  -- two ascending lists with the same rows are one
  pub one_list : (rows others : List (ℕ × V)) → IsAscending rows → IsAscending others → ((key : ℕ) → row_at key rows ≡ row_at key others)
      → rows ≡ others
  one_list [] [] up more same = refl
  one_list [] (other ∷ others) up more same = let e : None ≡ Some other.1 =
      same other.0 ∙ row_at-here other.0 other others refl in absurd cc
  one_list (row ∷ rows) [] up more same = let e : Some row.1 ≡ None = sym (row_at-here row.0 row rows refl) ∙ same row.0 in absurd cc
  one_list (row ∷ rows) (other ∷ others) up more same = elim (cases_order row.0 other.0) [
    | inr apart ↦ elim apart [
      | inl lt ↦
          let past : row.0 ≢ other.0 = λ e. omega arith in
          let none : row_at row.0 (other ∷ others) ≡ None =
          row_at-past row.0 other others past ∙ not_past other others row.0 more (omega arith) in
          let e : Some row.1 ≡ None = sym (row_at-here row.0 row rows refl) ∙ same row.0 ∙ none in
          absurd cc
      | inr gt ↦
          let past : other.0 ≢ row.0 = λ e. omega arith in
          let none : row_at other.0 (row ∷ rows) ≡ None = row_at-past other.0 row rows past ∙ not_past row rows other.0 up (omega arith) in
          let e : None ≡ Some other.1 = sym none ∙ same other.0 ∙ row_at-here other.0 other others refl in
          absurd cc
    ]
    | inl one ↦
        let found : Some row.1 ≡ Some other.1 = sym (row_at-here row.0 row rows refl) ∙ same row.0 ∙ row_at-here row.0 other others one in
        let values : row.1 ≡ other.1 = cc in
        let first : row ≡ other = one_row row other one values in
        let rest : rows ≡ others =
        one_list rows others (ascending_tail row rows up) (ascending_tail other others more) (λ key. elim (cases_order key row.0) [
          | inl here ↦ not_past row rows key up (omega arith) ∙ sym (not_past other others key more (omega arith))
          | inr apart ↦
              let past : key ≢ row.0 = λ e. elim apart [ inl lt ↦ omega arith | inr gt ↦ omega arith ] in
              let beyond : key ≢ other.0 = λ e. past (e ∙ sym one) in
              sym (row_at-past key row rows past) ∙ same key ∙ row_at-past key other others beyond
        ]) in
        cc
  ]
