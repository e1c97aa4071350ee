-- Lists of rows at their places.
use Rattle.std.proofs.Common.{◌≡◌, ◌<◌, ◌≤◌, ◌++◌, ◌⊎◌, ℕ, List, [], ◌∷◌, Some, None, refl, sym, ap, subst, ◌∙◌, inl, inr, arith}
use Rattle.std.proofs.Common.{length, map, get_or}
use Rattle.std.proofs.lemmas.List.{get_or-map, get_or_past}
use Rattle.std.proofs.lemmas.Bool.{cases_lt}
use Rattle.hprof_merge.specs.Rows.{ByteRow, Has, IsAscending, first_key, HaveSameFirst}
use Rattle.hprof_merge.specs.Union.{rows_at}

-- the rows of a cursor that there is
pub rows_at-map : {C : Type 0} (rows : C → List ByteRow) (cursors : List C) (place : ℕ) (cursor : C) → place < length cursors
    → rows_at (map rows cursors) place ≡ rows (get_or cursors place cursor)
rows_at-map rows cursors place cursor lt = get_or-map rows cursors place cursor [] lt

-- past the last list there are no rows
pub rows_at-past : (lists : List (List ByteRow)) (place : ℕ) → length lists ≤ place → rows_at lists place ≡ []
rows_at-past lists place le = get_or_past lists place [] le

-- where a list has a row, there is a list
pub place_of_row : (lists : List (List ByteRow)) (place : ℕ) (row : ByteRow) → Has (rows_at lists place) row → place < length lists
place_of_row lists place row has = elim (cases_lt place (length lists)) [
  | inl lt ↦ lt
  | inr le ↦ absurd (let P : List ByteRow → Type 0 = λ l. Has l row in subst P (rows_at-past lists place le) has)
]

-- ---- one list

-- each row of a list that ascends is the first, or one of a greater key
pub ascending_first : (first : ByteRow) (rest : List ByteRow) → IsAscending (first ∷ rest) → (row : ByteRow) → Has (first ∷ rest) row
    → first.0 ≤ row.0
ascending_first first rest up row (inl same) = let e : row.0 ≡ first.0 = ap (λ (r : ByteRow). r.0) same in omega arith
ascending_first first rest up row (inr has) = let lt = up.0 row has in omega arith

-- a list that has a first key
pub first_row : (rows : List ByteRow) (key : ℕ) → first_key rows ≡ Some key → (bytes : List ℕ) × (rest : List ByteRow)
    × (rows ≡ (key, bytes) ∷ rest)
first_row [] key is = cc
first_row (first ∷ rest) key is =
    let e : first.0 ≡ key = cc in (first.1, rest, ap (λ (k : ℕ). let row : ByteRow = (k, first.1) in row ∷ rest) e)

-- a list that has none
pub no_row : (rows : List ByteRow) → first_key rows ≡ None → rows ≡ []
no_row [] is = refl
no_row (first ∷ rest) is = cc

-- two lists whose first rows have one key and the same bytes
pub same_first : (rows others : List ByteRow) (key : ℕ) → first_key rows ≡ Some key → first_key others ≡ Some key
    → HaveSameFirst rows others
    → (bytes : List ℕ) × (rest other_rest : List ByteRow) × (rows ≡ (key, bytes) ∷ rest) × (others ≡ (key, bytes) ∷ other_rest)
same_first rows others key is other_is same =
    let one = first_row rows key is in
    let other = first_row others key other_is in
    let P : List ByteRow → List ByteRow → Type 0 = λ l m. HaveSameFirst l m in
    let bytes : one.0 ≡ other.0 = subst (λ (m : List ByteRow). P ((key, one.0) ∷ one.1) m) other.2
    (subst (λ (l : List ByteRow). P l others) one.2 same) in
    (one.0, one.1, other.1, one.2, other.2 ∙ ap (λ (b : List ℕ). let row : ByteRow = (key, b) in row ∷ other.1) (sym bytes))

-- a row at the front
pub Has-front : (rows : List ByteRow) (row : ByteRow) (rest : List ByteRow) → rows ≡ row ∷ rest → Has rows row
Has-front rows row rest is = let P : List ByteRow → Type 0 = λ l. Has l row in subst P (sym is) (inl refl)

-- two ascending rows of one key are one
pub one_at_key : (rows : List ByteRow) → IsAscending rows → (key : ℕ) (one other : List ℕ) → Has rows (key, one) → Has rows (key, other)
    → one
    ≡ other
one_at_key [] up key one other has_one has_other = absurd has_one
one_at_key (first ∷ rest) up key one other (inl here) (inl there) = let e : (key, one) ≡ (key, other) = here ∙ sym there in
    ap (λ (r : ByteRow). r.1) e
one_at_key (first ∷ rest) up key one other (inl here) (inr there) =
    let lt = up.0 (key, other) there in let e : key ≡ first.0 = ap (λ (r : ByteRow). r.0) here in absurd (omega arith)
one_at_key (first ∷ rest) up key one other (inr here) (inl there) =
    let lt = up.0 (key, one) here in let e : key ≡ first.0 = ap (λ (r : ByteRow). r.0) there in absurd (omega arith)
one_at_key (first ∷ rest) up key one other (inr here) (inr there) = one_at_key rest up.1 key one other here there

-- ---- a row put behind others

pub Has-append : (rows : List ByteRow) (last row : ByteRow) → Has (rows ++ last ∷ []) row → Has rows row ⊎ (row ≡ last)
Has-append [] last row (inl same) = inr same
Has-append [] last row (inr none) = absurd none
Has-append (first ∷ rows) last row (inl same) = inl (inl same)
Has-append (first ∷ rows) last row (inr has) = elim (Has-append rows last row has) [ inl there ↦ inl (inr there) | inr same ↦ inr same ]

pub append-has : (rows : List ByteRow) (last row : ByteRow) → Has rows row → Has (rows ++ last ∷ []) row
append-has [] last row has = absurd has
append-has (first ∷ rows) last row (inl same) = inl same
append-has (first ∷ rows) last row (inr has) = inr (append-has rows last row has)

pub append-last : (rows : List ByteRow) (last : ByteRow) → Has (rows ++ last ∷ []) last
append-last [] last = inl refl
append-last (first ∷ rows) last = inr (append-last rows last)

pub append-ascending : (rows : List ByteRow) (last : ByteRow) → IsAscending rows → ((row : ByteRow) → Has rows row → row.0 < last.0)
    → IsAscending (rows ++ last ∷ [])
append-ascending [] last up below = ((λ row none. absurd none), tt)
append-ascending (first ∷ rows) last up below = (
  (λ row has. elim (Has-append rows last row has) [
    | inl there ↦ up.0 row there
    | inr same ↦ let P : ByteRow → Type 0 = λ r. first.0 < r.0 in subst P (sym same) (below first (inl refl))
  ]),
  append-ascending rows last up.1 (λ row has. below row (inr has)),
)
