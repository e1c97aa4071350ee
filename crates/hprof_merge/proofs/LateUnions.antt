-- Lists whose late rows stand in other lists.
use Rattle.std.proofs.Common.{◌<◌, ◌≤◌, ◌++◌, ◌⊎◌, ℕ, zero, suc, Bool, cond, List, [], ◌∷◌, sym, subst, inl, inr}
use Rattle.std.specs.Prelude.{◌↔◌}
use Rattle.std.proofs.lemmas.Bool.{cases_lt, lt-ltb, le-ltb}
use Rattle.hprof_merge.specs.Rows.{ByteRow, Has}
use Rattle.hprof_merge.specs.Union.{rows_at, HaveSameRows}
use Rattle.hprof_merge.specs.Late.{in_order_above, late_above, rows_in_order, late_rows}
use Rattle.hprof_merge.proofs.Unions.{either_has, front_has, back_has, first_has}

-- a row of those in order above a key, or of the late ones
module _ (key : ℕ) (first : ByteRow) (rows : List ByteRow) where
  abbrev EitherHas : ByteRow → Type 0
  EitherHas row = Has (in_order_above key (first ∷ rows)) row ⊎ Has (late_above key (first ∷ rows)) row

  when_above : key < first.0 → (row : ByteRow) → EitherHas row
      ↔ (Has (first ∷ in_order_above first.0 rows) row ⊎ Has (late_above first.0 rows) row)
  when_above lt row =
      let t = lt-ltb key first.0 lt in
      let P : Bool → Type 0 =
      λ b. (Has (cond b (first ∷ in_order_above first.0 rows) (in_order_above key rows)) row
      ⊎ Has (cond b (late_above first.0 rows) (first ∷ late_above key rows)) row) in
      (subst P t, subst P (sym t))

  when_not : first.0 ≤ key → (row : ByteRow) → EitherHas row ↔ (Has (in_order_above key rows) row ⊎ Has (first ∷ late_above key rows) row)
  when_not le row =
      let t = le-ltb key first.0 le in
      let P : Bool → Type 0 =
      λ b. (Has (cond b (first ∷ in_order_above first.0 rows) (in_order_above key rows)) row
      ⊎ Has (cond b (late_above first.0 rows) (first ∷ late_above key rows)) row) in
      (subst P t, subst P (sym t))

either_above : (key : ℕ) (rows : List ByteRow) (row : ByteRow) → Has rows row
    ↔ (Has (in_order_above key rows) row ⊎ Has (late_above key rows) row)
either_above key [] row = ((λ has. inl has), (λ either. elim either [ inl has ↦ has | inr has ↦ has ]))
either_above key (first ∷ rows) row = elim (cases_lt key first.0) [
  | inl lt ↦
      let rest = either_above first.0 rows row in
      let here = when_above key first rows lt row in (
        (λ has. here.1 (elim has [
          | inl e ↦ inl (inl e)
          | inr behind ↦ elim (rest.0 behind) [ inl early ↦ inl (inr early) | inr out ↦ inr out ]
        ])),
        (λ either. elim (here.0 either) [
          | inl early ↦ elim early [ inl e ↦ inl e | inr behind ↦ inr (rest.1 (inl behind)) ]
          | inr out ↦ inr (rest.1 (inr out))
        ]),
      )
  | inr le ↦
      let rest = either_above key rows row in
      let here = when_not key first rows le row in (
        (λ has. here.1 (elim has [
          | inl e ↦ inr (inl e)
          | inr behind ↦ elim (rest.0 behind) [ inl early ↦ inl early | inr out ↦ inr (inr out) ]
        ])),
        (λ either. elim (here.0 either) [
          | inl early ↦ inr (rest.1 (inl early))
          | inr out ↦ elim out [ inl e ↦ inl e | inr behind ↦ inr (rest.1 (inr behind)) ]
        ]),
      )
]

in_order_or_late : (rows : List ByteRow) (row : ByteRow) → Has rows row ↔ (Has (rows_in_order rows) row ⊎ Has (late_rows rows) row)
in_order_or_late [] row = ((λ has. inl has), (λ either. elim either [ inl has ↦ has | inr has ↦ has ]))
in_order_or_late (first ∷ rows) row =
    let rest = either_above first.0 rows row in (
      (λ has. elim has [
        | inl e ↦ inl (inl e)
        | inr behind ↦ elim (rest.0 behind) [ inl early ↦ inl (inr early) | inr out ↦ inr out ]
      ]),
      (λ either. elim either [
        | inl early ↦ elim early [ inl e ↦ inl e | inr behind ↦ inr (rest.1 (inl behind)) ]
        | inr out ↦ inr (rest.1 (inr out))
      ]),
    )

only_has : (rows : List ByteRow) (row : ByteRow) (place : ℕ) → Has (rows_at (rows ∷ []) place) row → Has rows row
only_has rows row zero has = has
only_has rows row (suc place) has = absurd has

pub beside_late : (rows : List ByteRow) (others rest : List (List ByteRow)) → HaveSameRows others (late_rows rows ∷ [])
    → HaveSameRows (rows_in_order rows ∷ (others ++ rest)) (rows ∷ rest)
beside_late rows others rest same row = (
  (λ has. elim (first_has (rows_in_order rows) (others ++ rest) row has.0 has.1) [
    | inl early ↦ (0, (in_order_or_late rows row).1 (inl early))
    | inr behind ↦ elim (either_has others rest row behind.0 behind.1) [
      | inl other ↦ let out = (same row).0 other in (0, (in_order_or_late rows row).1 (inr (only_has (late_rows rows) row out.0 out.1)))
      | inr there ↦ (suc there.0, there.1)
    ]
  ]),
  (λ has. elim (first_has rows rest row has.0 has.1) [
    | inl there ↦ elim ((in_order_or_late rows row).0 there) [
      | inl early ↦ (0, early)
      | inr out ↦
          let other = (same row).1 (0, out) in
          let behind = front_has others rest row other.0 other.1 in
          (suc behind.0, behind.1)
    ]
    | inr there ↦ let behind = back_has others rest row there in (suc behind.0, behind.1)
  ]),
)
