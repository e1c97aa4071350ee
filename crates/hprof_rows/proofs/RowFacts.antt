-- The facts that the rows of a table state, for any content and any fact of a key and a content.
use Rattle.std.proofs.Common.{◌≡◌, ◌≢◌, ℕ, Bool, true, false, cond, eqb, ltb, List, [], ◌∷◌, find, Option, Some, None, Result, Ok, Err}
use Rattle.std.proofs.Common.{refl, sym, ap, subst, ◌∙◌, inl, inr, arith}
use Rattle.std.specs.Prelude.{IfOk, OnErr, bytes_eq}
use Rattle.std.specs.declared.cmp.Ordering.{Ordering}
use Rattle.std.specs.declared.cmp.Ordering.TheVariants.{Less, Equal, Greater}
use Rattle.std.specs.Cmp.Lexicographic.{slice_cmp}
use Rattle.std.proofs.Math.Bool.{and-true}
use Rattle.std.specs.Option.{option_map}
use Rattle.std.specs.Ordering.{nat_cmp, ordering_then, is_lt}
use Rattle.std.specs.BTreeMap.{insert_entry}
use Rattle.std.specs.Cmp.{nat_cmp_is}
use Rattle.std.proofs.lemmas.Bool.{eqb-true, eq-eqb, lt-ltb, le-ltb, cases_order}
use Rattle.hprof_values.specs.declared.ids.IdSize.{IdSize}
use Rattle.hprof_items.specs.FactValue.{FactValue}
use Rattle.hprof_tables.specs.declared.relation.Stated.{Stated}
use Rattle.hprof_tables.specs.declared.relation.Stated.TheVariants.{New, Same, Differs}
use Rattle.hprof_rows.specs.Content.{content_of, facts_of_rows, IsRight, AreRight}
use Rattle.hprof_rows.specs.Facts.{Has}
use Rattle.hprof_rows.specs.Order.{order_of}
use Rattle.hprof_tables.specs.Relation.{States}
use Rattle.hprof_tables.specs.SortedRows.{row_at}
use Rattle.hprof_rows.proofs.Keys.{same_place, same_place-true, HaveOneKey-sym}
use Rattle.hprof_rows.proofs.Order.{is_before}
use Rattle.hprof_rows.proofs.Inserting.{find-Some, inserted}
use Rattle.hprof_tables.proofs.SortedRows.{row_at-cons, row_at-here, row_at-past}
use Rattle.hprof_rows.proofs.Stating.{StatesAmong}

-- ---- two places in a table

-- they are one where the keys are
place_eq : (table key other : ℕ) → bytes_eq (table ∷ key ∷ []) (table ∷ other ∷ []) ≡ eqb key other
place_eq table key other = let same : eqb table table ≡ true = eq-eqb table table refl in rw same (and-true (eqb key other))

-- an order of numbers, by the test of it
lt_by : (key other : ℕ) → is_lt (nat_cmp key other) ≡ ltb key other
lt_by key other = elim (cases_order key other) [
  | inl same ↦ rw (← nat_cmp_is key other Equal same) (sym (le-ltb key other (omega arith)))
  | inr apart ↦ elim apart [
    | inl lt ↦ rw (← nat_cmp_is key other Less lt) (sym (lt-ltb key other lt))
    | inr gt ↦ rw (← nat_cmp_is key other Greater gt) (sym (le-ltb key other (omega arith)))
  ]
]

then_nothing : (o : Ordering) → ordering_then o Equal ≡ o
then_nothing Less = refl
then_nothing Equal = refl
then_nothing Greater = refl

-- the lesser key stands first
place_lt : (table key other : ℕ) → is_lt (slice_cmp nat_cmp (table ∷ key ∷ []) (table ∷ other ∷ [])) ≡ ltb key other
place_lt table key other = rw (← nat_cmp_is table table Equal refl) (ap is_lt (then_nothing (nat_cmp key other)) ∙ lt_by key other)

-- two facts of a table stand at one place where their keys are one
pub same_place_by : (table : ℕ) (one other : FactValue) (key more : ℕ) → order_of one ≡ table ∷ key ∷ []
    → order_of other ≡ table ∷ more ∷ []
    → same_place one other ≡ eqb key more
same_place_by table one other key more at at_too = rw (at, at_too) (place_eq table key more)

-- and that of the lesser key stands first
pub before_by : (table : ℕ) (one other : FactValue) (key more : ℕ) → order_of one ≡ table ∷ key ∷ [] → order_of other ≡ table ∷ more ∷ []
    → is_before one other ≡ ltb key more
before_by table one other key more at at_too = rw (at, at_too) (place_lt table key more)

module _ {V : Type 0} (ids : IdSize) (table : ℕ) (fact : ℕ → List ℕ → FactValue) (content : V → List ℕ) where
  -- the fact of a row
  abbrev row_fact : ℕ → V → FactValue
  row_fact key row = fact key (content row)

  abbrev facts : List (ℕ × V) → List FactValue
  facts rows = facts_of_rows fact content rows

  abbrev Right : List (ℕ × V) → Type 0
  Right rows = AreRight ids table fact content rows

  -- a fact of the table under a key, which is the fact of the key and its content
  pub record IsOfTable (key : ℕ) (stated : FactValue) : Type 0 where
    pub stands : order_of stated ≡ table ∷ key ∷ []
    pub again : fact key (content_of ids stated) ≡ stated

  -- rows whose facts are right whatever their keys
  pub right_by : (rows : List (ℕ × V)) → ((key : ℕ) (row : V) → IsRight ids table fact key (content row)) → Right rows
  right_by [] each = tt
  right_by (row ∷ rows) each = (each row.0 row.1, right_by rows each)

  -- the fact of the first row, or of a later one
  find_step : (t : Bool) (key other : ℕ) (row : V) (found : Option FactValue) (rest : Option V) → (t ≡ true → key ≡ other)
      → found ≡ option_map (row_fact key) rest
      → cond t (Some (row_fact other row)) found ≡ option_map (row_fact key) (cond t (Some row) rest)
  find_step true key other row found rest same e = ap (λ (k : ℕ). Some (row_fact k row)) (sym (same refl))
  find_step false key other row found rest same e = e

  -- the fact at the place of a key is that of its row
  pub find_rows : (rows : List (ℕ × V)) (key : ℕ) (stated : FactValue) → order_of stated ≡ table ∷ key ∷ [] → Right rows
      → find (same_place stated) (facts rows) ≡ option_map (row_fact key) (row_at key rows)
  find_rows [] key stated at right = refl
  find_rows (row ∷ rows) key stated at right =
      ap (λ (t : Bool). cond t (Some (row_fact row.0 row.1)) (find (same_place stated) (facts rows)))
      (same_place_by table stated (row_fact row.0 row.1) key row.0 at right.0.0)
      ∙ find_step (eqb key row.0) key row.0 row.1 (find (same_place stated) (facts rows)) (row_at key rows) (eqb-true key row.0)
      (find_rows rows key stated at right.1)
      ∙ ap (option_map (row_fact key)) (sym (row_at-cons key row rows))

  -- what is put among the facts of rows comes before the first of them, or later
  among : (t : Bool) (key : ℕ) (row : V) (first : ℕ × V) (rows : List (ℕ × V)) → order_of (row_fact key row) ≡ table ∷ key ∷ []
      → Right (first ∷ rows) → ltb key first.0 ≡ t
      → inserted (facts (first ∷ rows)) (row_fact key row) ≡ cond t (row_fact key row ∷ facts (first ∷ rows))
      (row_fact first.0 first.1 ∷ inserted (facts rows) (row_fact key row))
  among t key row first rows at right e =
      ap (λ (u : Bool). cond u (row_fact key row ∷ facts (first ∷ rows))
      (row_fact first.0 first.1 ∷ inserted (facts rows) (row_fact key row)))
      (before_by table (row_fact key row) (row_fact first.0 first.1) key first.0 at right.0.0 ∙ e)

  -- a row that is put in at a new key is its fact, put in its place
  pub insert_rows : (rows : List (ℕ × V)) (key : ℕ) (row : V) → order_of (row_fact key row) ≡ table ∷ key ∷ [] → Right rows
      → row_at key rows ≡ None → facts (insert_entry nat_cmp rows key row) ≡ inserted (facts rows) (row_fact key row)
  insert_rows [] key row at right none = refl
  insert_rows (first ∷ rows) key row at right none = elim (cases_order key first.0) [
    | inl same ↦ let e : Some first.1 ≡ None = sym (row_at-here key first rows same) ∙ none in absurd cc
    | inr apart ↦ elim apart [
      | inl lt ↦ rw (← nat_cmp_is key first.0 Less lt) (sym (among true key row first rows at right (lt-ltb key first.0 lt)))
      | inr gt ↦
          let past : key ≢ first.0 = λ e. omega arith in
          let rest = insert_rows rows key row at right.1 (sym (row_at-past key first rows past) ∙ none) in
          rw (← nat_cmp_is key first.0 Greater gt)
          (ap (λ (l : List FactValue). row_fact first.0 first.1 ∷ l) rest
          ∙ sym (among false key row first rows at right (le-ltb key first.0 (omega arith))))
    ]
  ]

  -- rows stay right where one that is right is put in
  insert_right : (rows : List (ℕ × V)) (key : ℕ) (row : V) → IsRight ids table fact key (content row) → Right rows
      → Right (insert_entry nat_cmp rows key row)
  insert_right [] key row new right = (new, tt)
  insert_right (first ∷ rows) key row new right = elim (cases_order key first.0) [
    | inl same ↦ rw (← nat_cmp_is key first.0 Equal same) (subst (λ (k : ℕ). IsRight ids table fact k (content row)) same new, right.1)
    | inr apart ↦ elim apart [
      | inl lt ↦ rw (← nat_cmp_is key first.0 Less lt) (new, right)
      | inr gt ↦ rw (← nat_cmp_is key first.0 Greater gt) (right.0, insert_right rows key row new right.1)
    ]
  ]

  -- the row that is there is right
  pub right_found : (rows : List (ℕ × V)) (key : ℕ) (row : V) → Right rows → row_at key rows ≡ Some row
      → IsRight ids table fact key (content row)
  right_found [] key row right e = absurd cc
  right_found (first ∷ rows) key row right e = elim (cases_order key first.0) [
    | inl same ↦
        let it : first.1 ≡ row = let both : Some first.1 ≡ Some row = sym (row_at-here key first rows same) ∙ e in cc in
        subst (λ (r : V). IsRight ids table fact key (content r)) it
        (subst (λ (k : ℕ). IsRight ids table fact k (content first.1)) (sym same) right.0)
    | inr apart ↦
        let past : key ≢ first.0 = λ same. elim apart [ inl lt ↦ omega arith | inr gt ↦ omega arith ] in
        right_found rows key row right.1 (sym (row_at-past key first rows past) ∙ e)
  ]

  -- the row that is there states a fact at the place of the key
  there : (rows : List (ℕ × V)) (key : ℕ) (stated : FactValue) (row : V) → order_of stated ≡ table ∷ key ∷ [] → Right rows
      → row_at key rows ≡ Some row → Has (facts rows) (row_fact key row) × (same_place stated (row_fact key row) ≡ true)
  there rows key stated row at right e =
      find-Some (same_place stated) (facts rows) (row_fact key row) (find_rows rows key stated at right ∙ ap (option_map (row_fact key)) e)

  -- a row with the content of a fact states it
  row_is : (key : ℕ) (stated : FactValue) (row : V) → IsOfTable key stated → content row ≡ content_of ids stated → row_fact key row ≡ stated
  row_is key stated row of e = ap (fact key) e ∙ of.again

  -- what stating a content does to the rows, stating its fact does to their facts
  pub rows_state : (old new : List (ℕ × V)) (key : ℕ) (stated : FactValue) (answer : Stated) → IsOfTable key stated → Right old
      → States content old key (content_of ids stated) answer new → StatesAmong (facts old) stated answer (facts new)
  rows_state old new key stated New of right s =
      let it = row_is key stated s.1.0 of s.1.1 in (
        find_rows old key stated of.stands right ∙ ap (option_map (row_fact key)) s.0,
        ap facts s.1.2 ∙ insert_rows old key s.1.0 (ap order_of it ∙ of.stands) right s.0 ∙ ap (inserted (facts old)) it,
      )
  rows_state old new key stated Same of right s =
      (subst (Has (facts old)) (row_is key stated s.1.0 of s.1.2) (there old key stated s.1.0 of.stands right s.1.1).0, ap facts s.0)
  rows_state old new key stated Differs of right s =
      let found = there old key stated s.1.0 of.stands right s.1.1 in
      let told = right_found old key s.1.0 right s.1.1 in
      let differ : row_fact key s.1.0 ≢ stated = λ same. s.1.2 (sym told.1 ∙ ap (content_of ids) same) in (
        record {
          other = row_fact key s.1.0;
          has_other = found.0;
          one_key = elim (same_place-true stated (row_fact key s.1.0) found.1) [
            | inl have ↦ HaveOneKey-sym stated (row_fact key s.1.0) have
            | inr same ↦ absurd (differ (sym same))
          ];
          differ = differ;
        },
        ap facts s.0,
      )

  -- and the rows stay right
  pub rows_right : (old new : List (ℕ × V)) (key : ℕ) (stated : FactValue) (answer : Stated) → IsOfTable key stated → Right old
      → States content old key (content_of ids stated) answer new → Right new
  rows_right old new key stated New of right s =
      let it = row_is key stated s.1.0 of s.1.1 in
      rw s.1.2 (insert_right old key s.1.0 (ap order_of it ∙ of.stands, ap (content_of ids) it ∙ sym s.1.1) right)
  rows_right old new key stated Same of right s = rw s.0 right
  rows_right old new key stated Differs of right s = rw s.0 right

  -- the same where memory may have been refused
  pub rows_tried : {E : Type 0} (r : Result Stated E) (old new : List (ℕ × V)) (key : ℕ) (stated : FactValue) → IsOfTable key stated
      → Right old
      → IfOk r (λ answer. States content old key (content_of ids stated) answer new)
      → IfOk r (λ answer. StatesAmong (facts old) stated answer (facts new))
  rows_tried (Ok answer) old new key stated of right ok = rows_state old new key stated answer of right ok
  rows_tried (Err e) old new key stated of right ok = tt

  pub tried_right : {E : Type 0} (r : Result Stated E) (old new : List (ℕ × V)) (key : ℕ) (stated : FactValue) → IsOfTable key stated
      → Right old
      → IfOk r (λ answer. States content old key (content_of ids stated) answer new) → OnErr r (new ≡ old) → Right new
  tried_right (Ok answer) old new key stated of right ok err = rows_right old new key stated answer of right ok
  tried_right (Err e) old new key stated of right ok err = rw err right

  pub rows_kept : {E : Type 0} (r : Result Stated E) (old new : List (ℕ × V)) → OnErr r (new ≡ old) → OnErr r (facts new ≡ facts old)
  rows_kept (Ok answer) old new kept = tt
  rows_kept (Err e) old new kept = ap facts kept
