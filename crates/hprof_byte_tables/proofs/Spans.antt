-- Rows whose bytes lie among others: they stay where more bytes come behind those.
use Rattle.std.proofs.Common.{◌≡◌, ◌≢◌, ◌≤◌, ◌<◌, ◌^◌, ◌++◌, ℕ, List, [], ◌∷◌, length, drop, Option, Some, None, Result, Ok, Err}
use Rattle.std.proofs.Common.{refl, sym, ap, subst, ◌∙◌, inl, inr, arith}
use Rattle.std.specs.Prelude.{◌↔◌, Bool, true, false, ⊤, IsTrue, IfOk, OnErr}
use Rattle.std.specs.declared.cmp.Ordering.TheVariants.{Less, Equal, Greater}
use Rattle.std.specs.Option.{option_map}
use Rattle.std.specs.Ordering.{nat_cmp}
use Rattle.std.specs.BTreeMap.{is_at, insert_entry}
use Rattle.std.specs.Cmp.{nat_cmp_is}
use Rattle.std.proofs.lemmas.Bool.{cases_order}
use Rattle.std.proofs.lemmas.List.{flat_map_more, drop-append-le, length-drop, append_assoc}
use Rattle.std.proofs.Math.Seq.{drop-append_seam}
use Rattle.std.proofs.lemmas.Map.Made.{lookup-map_values, keys_of-map_values}
use Rattle.hprof_byte_tables.specs.declared.framed_rows.Span.{Span}
use Rattle.hprof_tables.specs.declared.relation.Stated.{Stated}
use Rattle.hprof_tables.specs.declared.relation.Stated.TheVariants.{New, Same, Differs}
use Rattle.hprof_byte_tables.specs.Spans.{IsSpanOf, AreSpansOf, IsBehind, framed, front_row, row_bytes, lying, rows_lying, the_bytes}
use Rattle.hprof_tables.specs.Relation.{States}
use Rattle.hprof_tables.specs.SortedRows.{LeavesUnmade, Visits, row_at, IsAscending}
use Rattle.hprof_byte_tables.proofs.Framed.{HasFrontRow-append, HasFrontRow-framed, front_row-append, front_row-framed, front_width-some}
use Rattle.hprof_tables.proofs.Missing.{contents-append}
use Rattle.hprof_tables.proofs.SortedRows.{row_at-here, row_at-past}

-- ---- more bytes behind those that were there

pub span_start : (bytes : List ℕ) (span : Span) → IsSpanOf bytes span → span.start ≤ length bytes
span_start bytes span there = omega (arith, there, front_width-some (drop span.start bytes), length-drop span.start bytes)

pub lying-append : (bytes more : List ℕ) (span : Span) → IsSpanOf bytes span → lying (bytes ++ more) span ≡ lying bytes span
lying-append bytes more span there =
    ap front_row (drop-append-le span.start bytes more (span_start bytes span there))
    ∙ front_row-append (drop span.start bytes) more there

span-append : (bytes more : List ℕ) (span : Span) → IsSpanOf bytes span → IsSpanOf (bytes ++ more) span
span-append bytes more span there =
    rw (drop-append-le span.start bytes more (span_start bytes span there)) (HasFrontRow-append (drop span.start bytes) more there)

pub rows_lying-append : (bytes more : List ℕ) (rows : List (ℕ × Span)) → AreSpansOf bytes rows → rows_lying (bytes ++ more) rows
    ≡ rows_lying bytes rows
rows_lying-append bytes more [] within = refl
rows_lying-append bytes more (row ∷ rows) within =
    rw (lying-append bytes more row.1 within.0) (ap (λ (rest : List (ℕ × List ℕ)). (row.0, lying bytes row.1) ∷ rest)
    (rows_lying-append bytes more rows within.1))

pub within-append : (bytes more : List ℕ) (rows : List (ℕ × Span)) → AreSpansOf bytes rows → AreSpansOf (bytes ++ more) rows
within-append bytes more [] within = tt
within-append bytes more (row ∷ rows) within =
    (span-append bytes more row.1 within.0, within-append bytes more rows within.1)

-- the row that was put there
module _ (bytes row : List ℕ) (span : Span) (start : span.start ≡ length bytes) (small : length row < 2 ^ 64) where
  pub lying-new : lying (bytes ++ framed row) span ≡ row
  lying-new = rw start (ap front_row (drop-append_seam bytes (framed row)) ∙ front_row-framed row small)

  pub span-new : IsSpanOf (bytes ++ framed row) span
  span-new = rw (start, drop-append_seam bytes (framed row)) (HasFrontRow-framed row small)

-- ---- rows

pub row_lying : (bytes : List ℕ) (rows : List (ℕ × Span)) (key : ℕ) → row_at key (rows_lying bytes rows) ≡ option_map (lying bytes)
    (row_at key rows)
row_lying bytes rows key = lookup-map_values (lying bytes) (is_at (nat_cmp key)) rows

pub rows_lying-insert : (bytes : List ℕ) (rows : List (ℕ × Span)) (key : ℕ) (span : Span)
    → rows_lying bytes (insert_entry nat_cmp rows key span) ≡ insert_entry nat_cmp (rows_lying bytes rows) key (lying bytes span)
rows_lying-insert bytes [] key span = refl
rows_lying-insert bytes (first ∷ rows) key span = elim (cases_order key first.0) [
  | inl same ↦ rw (← nat_cmp_is key first.0 Equal same) refl
  | inr apart ↦ elim apart [
    | inl lt ↦ rw (← nat_cmp_is key first.0 Less lt) refl
    | inr gt ↦ rw (← nat_cmp_is key first.0 Greater gt)
        (ap (λ (rest : List (ℕ × List ℕ)). (first.0, lying bytes first.1) ∷ rest) (rows_lying-insert bytes rows key span))
  ]
]

pub within-insert : (bytes : List ℕ) (rows : List (ℕ × Span)) (key : ℕ) (span : Span) → AreSpansOf bytes rows → IsSpanOf bytes span
    → AreSpansOf bytes (insert_entry nat_cmp rows key span)
within-insert bytes [] key span within new = (new, tt)
within-insert bytes (first ∷ rows) key span within new = elim (cases_order key first.0) [
  | inl same ↦ rw (← nat_cmp_is key first.0 Equal same) (new, within.1)
  | inr apart ↦ elim apart [
    | inl lt ↦ rw (← nat_cmp_is key first.0 Less lt) (new, within)
    | inr gt ↦ rw (← nat_cmp_is key first.0 Greater gt) (within.0, within-insert bytes rows key span within.1 new)
  ]
]

pub within_found : (bytes : List ℕ) (rows : List (ℕ × Span)) (key : ℕ) (span : Span) → AreSpansOf bytes rows
    → row_at key rows ≡ Some span → IsSpanOf bytes span
within_found bytes [] key span within e = absurd cc
within_found bytes (first ∷ rows) key span within e = elim (cases_order key first.0) [
  | inl same ↦
      let it : first.1 ≡ span = let both : Some first.1 ≡ Some span = sym (row_at-here key first rows same) ∙ e in cc in
      subst (IsSpanOf bytes) it within.0
  | inr apart ↦
      let past : key ≢ first.0 = λ same. elim apart [ inl lt ↦ omega arith | inr gt ↦ omega arith ] in
      within_found bytes rows key span within.1 (sym (row_at-past key first rows past) ∙ e)
]

pub ascending_lying : (bytes : List ℕ) (rows : List (ℕ × Span)) → IsAscending rows → IsAscending (rows_lying bytes rows)
ascending_lying bytes rows up = rw (keys_of-map_values (lying bytes) rows) up

-- ---- a visit of bytes

-- what an answer tells
abbrev pub stated_by : Option Bool → Stated
stated_by None = New
stated_by (Some true) = Same
stated_by (Some false) = Differs

module _ (old_bytes new_bytes bytes : List ℕ) where
  -- what a span answers, and the spans that may be made
  abbrev pub Asks : Span → Bool → Type 0
  Asks span same = IsSpanOf old_bytes span → (IsTrue same ↔ (lying old_bytes span ≡ bytes))

  abbrev pub Makes : Span → Type 0
  Makes span = (new_bytes ≡ old_bytes ++ framed bytes) × (span.start ≡ length old_bytes) × (length bytes < 2 ^ 64)

  module _ (old new : List (ℕ × Span)) (key : ℕ) where
    made-within : (span : Span) → AreSpansOf old_bytes old → Makes span → new ≡ insert_entry nat_cmp old key span
        → AreSpansOf new_bytes new
    made-within span within made e =
        let more : AreSpansOf new_bytes old = rw made.0 (within-append old_bytes (framed bytes) old within) in
        let there : IsSpanOf new_bytes span = rw made.0 (span-new old_bytes bytes span made.1 made.2) in
        rw e (within-insert new_bytes old key span more there)

    -- the spans stay within the bytes
    pub visited-within : {E : Type 0} (r : Result (Option Bool) E) → AreSpansOf old_bytes old
        → IfOk r (λ answer. Visits Asks Makes old key answer new)
        → OnErr r (new ≡ old) → LeavesUnmade r old_bytes new_bytes → AreSpansOf new_bytes new
    visited-within (Ok None) within v err kept = made-within v.1.0 within v.1.1 v.1.2
    visited-within (Ok (Some answer)) within v err kept = rw (v.0, kept) within
    visited-within (Err e) within v err kept = rw (err, kept) within

    unchanged : new ≡ old → new_bytes ≡ old_bytes → rows_lying new_bytes new ≡ rows_lying old_bytes old
    unchanged e same = rw (e, same) refl

    -- a visit states the bytes
    pub visited : (answer : Option Bool) → AreSpansOf old_bytes old → Visits Asks Makes old key answer new
        → LeavesUnmade {E = ⊤} (Ok answer) old_bytes new_bytes
        → States the_bytes (rows_lying old_bytes old) key bytes (stated_by answer) (rows_lying new_bytes new)
    visited None within v kept =
        let span = v.1.0 in
        let made = v.1.1 in
        let lies : lying new_bytes span ≡ bytes =
        rw made.0 (lying-new old_bytes bytes span made.1 made.2) in
        let rest : rows_lying new_bytes old ≡ rows_lying old_bytes old =
        rw made.0 (rows_lying-append old_bytes (framed bytes) old within) in (
          row_lying old_bytes old key ∙ ap (option_map (lying old_bytes)) v.0,
          (
            lying new_bytes span,
            lies,
            ap (rows_lying new_bytes) v.1.2 ∙ rows_lying-insert new_bytes old key span
                ∙ ap (λ (rows : List (ℕ × List ℕ)). insert_entry nat_cmp rows key (lying new_bytes span)) rest,
          ),
        )
    visited (Some true) within v kept =
        let span = v.1.0 in (
          unchanged v.0 kept,
          (
            lying old_bytes span,
            row_lying old_bytes old key ∙ ap (option_map (lying old_bytes)) v.1.1,
            (v.1.2 (within_found old_bytes old key span within v.1.1)).0 refl,
          ),
        )
    visited (Some false) within v kept =
        let span = v.1.0 in (
          unchanged v.0 kept,
          (
            lying old_bytes span,
            row_lying old_bytes old key ∙ ap (option_map (lying old_bytes)) v.1.1,
            λ same. let yes : false ≡ true = (v.1.2 (within_found old_bytes old key span within v.1.1)).1 same in absurd cc,
          ),
        )

-- ---- rows that are put behind others, one after the other

pub behind_more : (old now row new : List ℕ) → IsBehind old now → new ≡ now ++ row → IsBehind old new
behind_more old now row new behind e = (behind.0 ++ row, e ∙ ap (λ (l : List ℕ). l ++ row) behind.1 ∙ append_assoc old behind.0 row)

-- those of one row more
pub put_more : (old now row new : List ℕ) (done : List (ℕ × List ℕ)) (key : ℕ) → now ≡ old ++ row_bytes done → new ≡ now ++ framed row
    → new ≡ old ++ row_bytes (done ++ (key, row) ∷ [])
put_more old now row new done key put e =
    e ∙ ap (λ (l : List ℕ). l ++ framed row) put ∙ flat_map_more (λ (one : ℕ × List ℕ). framed one.1) old done (key, row)

within-last : (bytes : List ℕ) (rows : List (ℕ × Span)) (key : ℕ) (span : Span) → AreSpansOf bytes rows → IsSpanOf bytes span
    → AreSpansOf bytes (rows ++ (key, span) ∷ [])
within-last bytes [] key span within last = (last, tt)
within-last bytes (row ∷ rows) key span within last = (within.0, within-last bytes rows key span within.1 last)

module _ (now row new : List ℕ) (rows : List (ℕ × Span)) (key : ℕ) (span : Span)
    (e : new ≡ now ++ framed row) (start : span.start ≡ length now) (small : length row < 2 ^ 64) where
  pub within-next : AreSpansOf now rows → AreSpansOf new (rows ++ (key, span) ∷ [])
  within-next within =
      within-last new rows key span
      (subst (λ (l : List ℕ). AreSpansOf l rows) (sym e) (within-append now (framed row) rows within))
      (subst (λ (l : List ℕ). IsSpanOf l span) (sym e) (span-new now row span start small))

  pub lying-next : (done : List (ℕ × List ℕ)) → AreSpansOf now rows → rows_lying now rows ≡ done
      → rows_lying new (rows ++ (key, span) ∷ []) ≡ done ++ (key, row) ∷ []
  lying-next done within lay =
      contents-append (lying new) rows (key, span)
      ∙ ap (λ (those : List (ℕ × List ℕ)). those ++ (key, lying new span) ∷ [])
      (ap (λ (l : List ℕ). rows_lying l rows) e ∙ rows_lying-append now (framed row) rows within ∙ lay)
      ∙ ap (λ (one : List ℕ). done ++ (key, one) ∷ [])
      (ap (λ (l : List ℕ). lying l span) e ∙ lying-new now row span start small)
