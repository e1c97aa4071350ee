-- The facts of two tables as one: those of the rows of both, where facts at one place are the same.
use Rattle.std.proofs.Common.{◌≡◌, ◌≢◌, ◌<◌, ◌⊎◌, ℕ, true, List, [], ◌∷◌, ◌++◌, map, Option, Some, None, refl, sym, ap}
use Rattle.std.proofs.Common.{subst, ◌∙◌, inl, inr, arith}
use Rattle.std.specs.List.{AllByRecursion}
use Rattle.std.specs.List.Sorted.{IsStrictlySortedBy}
use Rattle.std.specs.Option.{option_or}
use Rattle.std.specs.Ordering.{is_lt}
use Rattle.std.proofs.lemmas.Bool.{cases_order, ltb-true, lt-ltb, eq-eqb}
use Rattle.hprof_values.specs.declared.ids.IdSize.{IdSize}
use Rattle.hprof_items.specs.FactValue.{FactValue}
use Rattle.hprof_byte_tables.specs.Spans.{the_bytes}
use Rattle.hprof_tables.specs.Relation.{contents_of}
use Rattle.hprof_tables.specs.SortedRows.{AreKeys, row_at, IsAscending}
use Rattle.hprof_tables.specs.Union.{AreUnion}
use Rattle.hprof_tables.proofs.SortedRows.{ascending_cons, ascending_head, ascending_tail, row_at-here, row_at-past}
use Rattle.hprof_tables.proofs.Unions.{union_rows}
use Rattle.hprof_rows.specs.Content.{IsRight, AreRight}
use Rattle.hprof_rows.specs.Facts.{Has, SameFacts}
use Rattle.hprof_rows.specs.Order.{IsBefore, IsCanonicalOrder}
use Rattle.hprof_rows.proofs.FactSets.{Has-parts, Has-front, Has-back}
use Rattle.hprof_rows.proofs.Keys.{same_place}
use Rattle.hprof_rows.proofs.Order.{is_before-true}
use Rattle.hprof_rows.proofs.RowFacts.{before_by, same_place_by, right_found}

-- no rows ascend
nothing_ascends : (V : Type 0) → IsAscending {V = V} []
unfolding IsStrictlySortedBy
nothing_ascends V = tt

-- facts at one place of two lists are the same
abbrev pub AgreeAtPlaces : List FactValue → List FactValue → Type 0
AgreeAtPlaces facts others = (one other : FactValue) → Has facts one → Has others other → same_place one other ≡ true → one ≡ other

-- what a table has after another was joined with it: its facts, in order
pub record IsTableOfBoth (old more new : List FactValue) : Type 0 where
  pub same : SameFacts new (old ++ more)
  pub ordered : IsCanonicalOrder new

module _ (ids : IdSize) (table : ℕ) (fact : ℕ → List ℕ → FactValue) where
  -- the facts of keys and contents
  abbrev pub stated : List (ℕ × List ℕ) → List FactValue
  stated rows = map (λ row. fact row.0 row.1) rows

  abbrev pub Right : List (ℕ × List ℕ) → Type 0
  Right rows = AreRight ids table fact the_bytes rows

  -- ---- a row and its fact

  pub has_stated : (rows : List (ℕ × List ℕ)) (key : ℕ) (content : List ℕ) → row_at key rows ≡ Some content
      → Has (stated rows) (fact key content)
  has_stated [] key content e = absurd cc
  has_stated (row ∷ rows) key content e = elim (cases_order key row.0) [
    | inl here ↦
        let both : Some row.1 ≡ Some content = sym (row_at-here key row rows here) ∙ e in
        let it : row.1 ≡ content = cc in
        inl (ap (λ (k : ℕ). fact k content) here ∙ ap (fact row.0) (sym it))
    | inr off ↦
        let past : key ≢ row.0 = λ same. elim off [ inl lt ↦ omega arith | inr gt ↦ omega arith ] in
        inr (has_stated rows key content (sym (row_at-past key row rows past) ∙ e))
  ]

  -- the row that states a fact
  record Stating (rows : List (ℕ × List ℕ)) (of : FactValue) : Type 0 where
    key : ℕ
    content : List ℕ
    is_there : row_at key rows ≡ Some content
    states : of ≡ fact key content

  above : (bound : ℕ) (rows : List (ℕ × List ℕ)) (key : ℕ) (content : List ℕ) → AreKeys (λ k. bound < k) rows
      → row_at key rows ≡ Some content → bound < key
  above bound [] key content all e = absurd cc
  above bound (row ∷ rows) key content all e = elim (cases_order key row.0) [
    | inl here ↦ let lt : bound < row.0 = all.0 in omega arith
    | inr off ↦
        let past : key ≢ row.0 = λ same. elim off [ inl lt ↦ omega arith | inr gt ↦ omega arith ] in
        above bound rows key content all.1 (sym (row_at-past key row rows past) ∙ e)
  ]

  stating : (rows : List (ℕ × List ℕ)) → IsAscending rows → (of : FactValue) → Has (stated rows) of → Stating rows of
  stating [] up of has = absurd has
  stating (row ∷ rows) up of (inl e) = record { key = row.0; content = row.1; is_there = row_at-here row.0 row rows refl; states = e }
  stating (row ∷ rows) up of (inr has) =
      let rest = stating rows (ascending_tail row rows up) of has in
      let lt = above row.0 rows rest.key rest.content (ascending_head row rows up) rest.is_there in
      let past : rest.key ≢ row.0 = λ same. omega arith in
      record { key = rest.key; content = rest.content; is_there = row_at-past rest.key row rows past ∙ rest.is_there; states = rest.states }

  -- ---- order of keys, and of facts

  pub ascending_of : (rows : List (ℕ × List ℕ)) → Right rows → IsCanonicalOrder (stated rows) → IsAscending rows
  ascending_of [] right ordered = nothing_ascends (List ℕ)
  ascending_of (row ∷ rows) right ordered =
      ascending_cons row rows (keys rows right.1 ordered.0) (ascending_of rows right.1 ordered.1)
    where
      keys : (those : List (ℕ × List ℕ)) → Right those → AllByRecursion (IsBefore (fact row.0 row.1)) (stated those)
          → AreKeys (λ key. row.0 < key) those
      keys [] those before = tt
      keys (one ∷ those) right_too before = (
        ltb-true row.0 one.0
            (sym (before_by table (fact row.0 row.1) (fact one.0 one.1) row.0 one.0 right.0.0 right_too.0.0) ∙ ap is_lt before.0),
        keys those right_too.1 before.1,
      )

  pub ordered_of : (rows : List (ℕ × List ℕ)) → Right rows → IsAscending rows → IsCanonicalOrder (stated rows)
  ordered_of [] right up = tt
  ordered_of (row ∷ rows) right up =
      (before rows right.1 (ascending_head row rows up), ordered_of rows right.1 (ascending_tail row rows up))
    where
      before : (those : List (ℕ × List ℕ)) → Right those → AreKeys (λ key. row.0 < key) those
          → AllByRecursion (IsBefore (fact row.0 row.1)) (stated those)
      before [] those lt = tt
      before (one ∷ those) right_too lt = (
        is_before-true (fact row.0 row.1) (fact one.0 one.1)
            (before_by table (fact row.0 row.1) (fact one.0 one.1) row.0 one.0 right.0.0 right_too.0.0 ∙ lt-ltb row.0 one.0 lt.0),
        before those right_too.1 lt.1,
      )

  -- ---- the rows of both

  module _ (old other new : List (ℕ × List ℕ)) (right : Right old) (right_too : Right other) (union : AreUnion old other new) where
    pub union_right : Right new
    union_right = union_rows (λ key content. IsRight ids table fact key content) old other new right right_too union

    from_old : (key : ℕ) (content : List ℕ) → row_at key old ≡ Some content → row_at key new ≡ Some content
    from_old key content e = union.each key ∙ ap (λ (found : Option (List ℕ)). option_or found (row_at key other)) e

    -- a row of the new table is one of the first, or else of the other
    of_both : (key : ℕ) (content : List ℕ) → row_at key new ≡ Some content → (row_at key old ≡ Some content)
        ⊎ (row_at key other ≡ Some content)
    of_both key content e = by_old (row_at key old) refl
      where
        by_old : (found : Option (List ℕ)) → row_at key old ≡ found → (row_at key old ≡ Some content) ⊎ (row_at key other ≡ Some content)
        by_old None is = inr (sym (union.each key ∙ ap (λ (f : Option (List ℕ)). option_or f (row_at key other)) is) ∙ e)
        by_old (Some one) is = inl (is ∙ sym (union.each key ∙ ap (λ (f : Option (List ℕ)). option_or f (row_at key other)) is) ∙ e)

    -- one of the other states a fact that the new one states too
    kept_other : AgreeAtPlaces (stated old) (stated other) → (key : ℕ) (content : List ℕ) → row_at key other ≡ Some content
        → Has (stated new) (fact key content)
    kept_other agree key content e = by_old (row_at key old) refl
      where
        one_place : (mine : List ℕ) → row_at key old ≡ Some mine → same_place (fact key mine) (fact key content) ≡ true
        one_place mine is =
            same_place_by table (fact key mine) (fact key content) key key (right_found ids table fact the_bytes old key mine right is).0
            (right_found ids table fact the_bytes other key content right_too e).0
            ∙ eq-eqb key key refl

        by_old : (found : Option (List ℕ)) → row_at key old ≡ found → Has (stated new) (fact key content)
        by_old None is =
            has_stated new key content (union.each key ∙ ap (λ (f : Option (List ℕ)). option_or f (row_at key other)) is ∙ e)
        by_old (Some mine) is =
            subst (Has (stated new))
            (agree (fact key mine) (fact key content) (has_stated old key mine is) (has_stated other key content e) (one_place mine is))
            (has_stated new key mine (from_old key mine is))

    pub union_stated : IsAscending old → IsAscending other → AgreeAtPlaces (stated old) (stated other)
        → IsTableOfBoth (stated old) (stated other) (stated new)
    union_stated up up_too agree = record {
      same = λ of. (
        λ has.
            let row = stating new union.ascends of has in
            elim (of_both row.key row.content row.is_there) [
              | inl e ↦ Has-front (stated old) (stated other) of (subst (Has (stated old)) (sym row.states)
                  (has_stated old row.key row.content e))
              | inr e ↦ Has-back (stated old) (stated other) of (subst (Has (stated other)) (sym row.states)
                  (has_stated other row.key row.content e))
            ],
        λ has. elim (Has-parts (stated old) (stated other) of has) [
          | inl mine ↦
              let row = stating old up of mine in
              subst (Has (stated new)) (sym row.states) (has_stated new row.key row.content (from_old row.key row.content row.is_there))
          | inr its ↦
              let row = stating other up_too of its in
              subst (Has (stated new)) (sym row.states) (kept_other agree row.key row.content row.is_there)
        ],
      );
      ordered = ordered_of new union_right union.ascends;
    }

-- ---- rows of any content

module _ {V : Type 0} (ids : IdSize) (table : ℕ) (fact : ℕ → List ℕ → FactValue) (content : V → List ℕ) where
  abbrev RightRows : List (ℕ × V) → Type 0
  RightRows rows = AreRight ids table fact content rows

  -- rows are right where their contents are
  pub contents_right : (rows : List (ℕ × V)) → RightRows rows → Right ids table fact (contents_of content rows)
  contents_right [] right = tt
  contents_right (row ∷ rows) right = (right.0, contents_right rows right.1)

  pub right_contents : (rows : List (ℕ × V)) → Right ids table fact (contents_of content rows) → RightRows rows
  right_contents [] right = tt
  right_contents (row ∷ rows) right = (right.0, right_contents rows right.1)
