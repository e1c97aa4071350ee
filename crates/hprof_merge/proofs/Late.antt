-- Rows in order, and late rows.
use Rattle.std.proofs.Common.{◌≡◌, ◌<◌, ◌≤◌, ◌++◌, ◌⊎◌, ℕ, List, [], ◌∷◌, Bool, refl, sym, ap, subst, ◌∙◌, inl, inr, cond, arith}
use Rattle.std.specs.List.Sorted.{IsPermutation}
use Rattle.std.proofs.lemmas.Bool.{cases_lt, lt-ltb, le-ltb}
use Rattle.std.proofs.lemmas.List.{append_assoc}
use Rattle.std.proofs.lemmas.List.Sorted.{IsPermutation-refl, IsPermutation-trans, IsPermutation-cons, IsPermutation-append_comm}
use Rattle.std.proofs.lemmas.List.Sorted.{IsPermutation-append_left}
use Rattle.hprof_merge.specs.Rows.{ByteRow, Has, IsAscending}
use Rattle.hprof_merge.specs.Late.{in_order_above, late_above, rows_in_order, late_rows}

-- one list with a row before it, in another place
behind_row : (row : ByteRow) (kept out : List ByteRow) → IsPermutation (kept ++ row ∷ out) (row ∷ (kept ++ out))
behind_row row kept out =
    let P : List ByteRow → Type 0 = λ l. IsPermutation l (row ∷ (kept ++ out)) in
    subst P (append_assoc kept (row ∷ []) out)
    (IsPermutation-append_left out (kept ++ row ∷ []) (row ∷ kept) (IsPermutation-append_comm kept (row ∷ [])))

pub in_order_and_late_above : (key : ℕ) (rows : List ByteRow) → IsPermutation (in_order_above key rows ++ late_above key rows) rows
in_order_and_late_above key [] = IsPermutation-refl []
in_order_and_late_above key (row ∷ rows) = elim (cases_lt key row.0) [
  | inl lt ↦
      let t = lt-ltb key row.0 lt in
      let kept : in_order_above key (row ∷ rows) ≡ row ∷ in_order_above row.0 rows =
      ap (λ (b : Bool). cond b (row ∷ in_order_above row.0 rows) (in_order_above key rows)) t in
      let out : late_above key (row ∷ rows) ≡ late_above row.0 rows =
      ap (λ (b : Bool). cond b (late_above row.0 rows) (row ∷ late_above key rows)) t in
      let P : List ByteRow → List ByteRow → Type 0 = λ l m. IsPermutation (l ++ m) (row ∷ rows) in
      subst (λ (l : List ByteRow). P l (late_above key (row ∷ rows))) (sym kept)
      (subst (λ (m : List ByteRow). P (row ∷ in_order_above row.0 rows) m) (sym out)
      (IsPermutation-cons row (in_order_above row.0 rows ++ late_above row.0 rows) rows (in_order_and_late_above row.0 rows)))
  | inr le ↦
      let t = le-ltb key row.0 le in
      let kept : in_order_above key (row ∷ rows) ≡ in_order_above key rows =
      ap (λ (b : Bool). cond b (row ∷ in_order_above row.0 rows) (in_order_above key rows)) t in
      let out : late_above key (row ∷ rows) ≡ row ∷ late_above key rows =
      ap (λ (b : Bool). cond b (late_above row.0 rows) (row ∷ late_above key rows)) t in
      let P : List ByteRow → List ByteRow → Type 0 = λ l m. IsPermutation (l ++ m) (row ∷ rows) in
      subst (λ (l : List ByteRow). P l (late_above key (row ∷ rows))) (sym kept)
      (subst (λ (m : List ByteRow). P (in_order_above key rows) m) (sym out)
      (IsPermutation-trans (in_order_above key rows ++ row ∷ late_above key rows) (row ∷ (in_order_above key rows ++ late_above key rows))
      (row ∷ rows) (behind_row row (in_order_above key rows) (late_above key rows))
      (IsPermutation-cons row (in_order_above key rows ++ late_above key rows) rows (in_order_and_late_above key rows))))
]

-- those in order and the late ones are all
pub in_order_and_late : (rows : List ByteRow) → IsPermutation (rows_in_order rows ++ late_rows rows) rows
in_order_and_late [] = IsPermutation-refl []
in_order_and_late (first ∷ rows) =
    IsPermutation-cons first (in_order_above first.0 rows ++ late_above first.0 rows) rows (in_order_and_late_above first.0 rows)

-- of rows that ascend none is late
none_late : (key : ℕ) (rows : List ByteRow) → ((row : ByteRow) → Has rows row → key < row.0) → IsAscending rows
    → (in_order_above key rows ≡ rows) × (late_above key rows ≡ [])
none_late key [] above up = (refl, refl)
none_late key (row ∷ rows) above up =
    let t = lt-ltb key row.0 (above row (inl refl)) in
    let rest = none_late row.0 rows up.0 up.1 in (
      ap (λ (b : Bool). cond b (row ∷ in_order_above row.0 rows) (in_order_above key rows)) t ∙ ap (λ (l : List ByteRow). row ∷ l) rest.0,
      ap (λ (b : Bool). cond b (late_above row.0 rows) (row ∷ late_above key rows)) t ∙ rest.1,
    )

pub ascending_in_order : (rows : List ByteRow) → IsAscending rows → (rows_in_order rows ≡ rows) × (late_rows rows ≡ [])
ascending_in_order [] up = (refl, refl)
ascending_in_order (first ∷ rows) up =
    let rest = none_late first.0 rows up.0 up.1 in
    (ap (λ (l : List ByteRow). first ∷ l) rest.0, rest.1)

-- ---- rows in order ascend

in_order_above-cons : (key : ℕ) (row : ByteRow) (rows : List ByteRow)
    → ((key < row.0) × (in_order_above key (row ∷ rows) ≡ row ∷ in_order_above row.0 rows))
    ⊎ ((row.0 ≤ key) × (in_order_above key (row ∷ rows) ≡ in_order_above key rows))
in_order_above-cons key row rows = elim (cases_lt key row.0) [
  | inl lt ↦ inl (lt, ap (λ (t : Bool). cond t (row ∷ in_order_above row.0 rows) (in_order_above key rows)) (lt-ltb key row.0 lt))
  | inr le ↦ inr (le, ap (λ (t : Bool). cond t (row ∷ in_order_above row.0 rows) (in_order_above key rows)) (le-ltb key row.0 le))
]

pub in_order_above-above : (key : ℕ) (rows : List ByteRow) (row : ByteRow) → Has (in_order_above key rows) row → key < row.0
in_order_above-above key [] row has = absurd has
in_order_above-above key (first ∷ rows) row has =
    let P : List ByteRow → Type 0 = λ l. Has l row in
    elim (in_order_above-cons key first rows) [
      | inl kept ↦ elim (subst P kept.1 has) [
        | inl e ↦ let f : row.0 ≡ first.0 = ap (λ (r : ByteRow). r.0) e in let lt = kept.0 in omega arith
        | inr there ↦ let more = in_order_above-above first.0 rows row there in let lt = kept.0 in omega arith
      ]
      | inr out ↦ in_order_above-above key rows row (subst P out.1 has)
    ]

pub in_order_above-ascends : (key : ℕ) (rows : List ByteRow) → IsAscending (in_order_above key rows)
in_order_above-ascends key [] = tt
in_order_above-ascends key (first ∷ rows) =
    let P : List ByteRow → Type 0 = λ l. IsAscending l in
    elim (in_order_above-cons key first rows) [
      | inl kept ↦ subst P (sym kept.1) (in_order_above-above first.0 rows, in_order_above-ascends first.0 rows)
      | inr out ↦ subst P (sym out.1) (in_order_above-ascends key rows)
    ]

pub rows_in_order-ascends : (rows : List ByteRow) → IsAscending (rows_in_order rows)
rows_in_order-ascends [] = tt
rows_in_order-ascends (first ∷ rows) = (in_order_above-above first.0 rows, in_order_above-ascends first.0 rows)

-- ---- a late row is not above a row in order

late_above-low : (key : ℕ) (rows : List ByteRow) (row : ByteRow) → Has (late_above key rows) row
    → (row.0 ≤ key) ⊎ ((other : ByteRow) × Has (in_order_above key rows) other × (row.0 ≤ other.0))
late_above-low key [] row has = absurd has
late_above-low key (first ∷ rows) row has =
    let P : List ByteRow → Type 0 = λ l. Has l row in
    let Q : List ByteRow → Type 0 = λ l. (other : ByteRow) × Has l other × (row.0 ≤ other.0) in
    elim (cases_lt key first.0) [
      | inl lt ↦
          let t = lt-ltb key first.0 lt in
          let out : late_above key (first ∷ rows) ≡ late_above first.0 rows =
          ap (λ (b : Bool). cond b (late_above first.0 rows) (first ∷ late_above key rows)) t in
          let early : in_order_above key (first ∷ rows) ≡ first ∷ in_order_above first.0 rows =
          ap (λ (b : Bool). cond b (first ∷ in_order_above first.0 rows) (in_order_above key rows)) t in
          elim (late_above-low first.0 rows row (subst P out has)) [
            | inl low ↦ inr (subst Q (sym early) (first, inl refl, low))
            | inr other ↦ inr (subst Q (sym early) (other.0, inr other.1, other.2))
          ]
      | inr le ↦
          let t = le-ltb key first.0 le in
          let out : late_above key (first ∷ rows) ≡ first ∷ late_above key rows =
          ap (λ (b : Bool). cond b (late_above first.0 rows) (first ∷ late_above key rows)) t in
          let early : in_order_above key (first ∷ rows) ≡ in_order_above key rows =
          ap (λ (b : Bool). cond b (first ∷ in_order_above first.0 rows) (in_order_above key rows)) t in
          elim (subst P out has) [
            | inl e ↦ let same : row.0 ≡ first.0 = ap (λ (r : ByteRow). r.0) e in inl (omega arith)
            | inr behind ↦ elim (late_above-low key rows row behind) [
              | inl low ↦ inl low
              | inr other ↦ inr (subst Q (sym early) other)
            ]
          ]
    ]

pub late_rows-low : (rows : List ByteRow) (row : ByteRow) → Has (late_rows rows) row
    → (other : ByteRow) × Has (rows_in_order rows) other × (row.0 ≤ other.0)
late_rows-low [] row has = absurd has
late_rows-low (first ∷ rows) row has = elim (late_above-low first.0 rows row has) [
  | inl low ↦ (first, inl refl, low)
  | inr other ↦ (other.0, inr other.1, other.2)
]
