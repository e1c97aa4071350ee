-- Lists of rows, joined place by place.
use Rattle.std.proofs.Common.{◌≡◌, ◌≢◌, ◌<◌, ◌++◌, ◌⊎◌, ℕ, zero, suc, List, [], ◌∷◌, refl, sym, ap, subst, ◌∙◌, inl, inr, arith}
use Rattle.std.proofs.Common.{length, set, replicate}
use Rattle.std.proofs.lemmas.List.{append-nil, get_or-set_same, get_or-set_other, length-replicate}
use Rattle.std.proofs.lemmas.Bool.{cases_eq}
use Rattle.hprof_merge.specs.Rows.{ByteRow, Has}
use Rattle.hprof_merge.specs.Union.{rows_at, AnyHas}
use Rattle.hprof_merge.proofs.Lists.{Has-front}

Has-both : (rows more : List ByteRow) (row : ByteRow) → Has (rows ++ more) row → Has rows row ⊎ Has more row
Has-both [] more row has = inr has
Has-both (first ∷ rows) more row (inl e) = inl (inl e)
Has-both (first ∷ rows) more row (inr has) = elim (Has-both rows more row has) [ inl there ↦ inl (inr there) | inr there ↦ inr there ]

both-front : (rows more : List ByteRow) (row : ByteRow) → Has rows row → Has (rows ++ more) row
both-front [] more row has = absurd has
both-front (first ∷ rows) more row (inl e) = inl e
both-front (first ∷ rows) more row (inr has) = inr (both-front rows more row has)

both-back : (rows more : List ByteRow) (row : ByteRow) → Has more row → Has (rows ++ more) row
both-back [] more row has = has
both-back (first ∷ rows) more row has = inr (both-back rows more row has)

abbrev pub joined : List (List ByteRow) → List (List ByteRow) → List (List ByteRow)
joined [] more = more
joined (rows ∷ lists) [] = rows ∷ lists
joined (rows ∷ lists) (next ∷ more) = (rows ++ next) ∷ joined lists more

pub rows_at-joined : (lists more : List (List ByteRow)) (place : ℕ) → rows_at (joined lists more) place
    ≡ rows_at lists place ++ rows_at more place
rows_at-joined [] more place = refl
rows_at-joined (rows ∷ lists) [] place = sym (append-nil (rows_at (rows ∷ lists) place))
rows_at-joined (rows ∷ lists) (next ∷ more) zero = refl
rows_at-joined (rows ∷ lists) (next ∷ more) (suc place) = rows_at-joined lists more place

pub length-joined : (lists more : List (List ByteRow)) → length lists ≡ length more → length (joined lists more) ≡ length lists
length-joined [] more same = sym same
length-joined (rows ∷ lists) [] same = refl
length-joined (rows ∷ lists) (next ∷ more) same = let e : length lists ≡ length more = omega arith in
    ap (λ (n : ℕ). suc n) (length-joined lists more e)

pub any_joined : (lists more : List (List ByteRow)) (row : ByteRow) → AnyHas (joined lists more) row → AnyHas lists row ⊎ AnyHas more row
any_joined lists more row has =
    let P : List ByteRow → Type 0 = λ l. Has l row in
    elim (Has-both (rows_at lists has.0) (rows_at more has.0) row (subst P (rows_at-joined lists more has.0) has.1)) [
      | inl there ↦ inl (has.0, there)
      | inr there ↦ inr (has.0, there)
    ]

pub joined_front : (lists more : List (List ByteRow)) (row : ByteRow) → AnyHas lists row → AnyHas (joined lists more) row
joined_front lists more row has =
    let P : List ByteRow → Type 0 = λ l. Has l row in
    (has.0, subst P (sym (rows_at-joined lists more has.0)) (both-front (rows_at lists has.0) (rows_at more has.0) row has.1))

pub joined_back : (lists more : List (List ByteRow)) (row : ByteRow) → AnyHas more row → AnyHas (joined lists more) row
joined_back lists more row has =
    let P : List ByteRow → Type 0 = λ l. Has l row in
    (has.0, subst P (sym (rows_at-joined lists more has.0)) (both-back (rows_at lists has.0) (rows_at more has.0) row has.1))

-- ---- no rows, and one

abbrev pub nothing : ℕ → List (List ByteRow)
nothing count = replicate count []

pub nothing_at : (count place : ℕ) → rows_at (nothing count) place ≡ []
nothing_at zero place = refl
nothing_at (suc count) zero = refl
nothing_at (suc count) (suc place) = nothing_at count place

pub nothing_has : (count : ℕ) (row : ByteRow) → AnyHas (nothing count) row → ⊥
nothing_has count row has = let P : List ByteRow → Type 0 = λ l. Has l row in subst P (nothing_at count has.0) has.1

abbrev pub one_row : ℕ → ℕ → ByteRow → List (List ByteRow)
one_row count place row = set (nothing count) place (row ∷ [])

pub one_row_here : (count place : ℕ) (row : ByteRow) → place < count → rows_at (one_row count place row) place ≡ row ∷ []
one_row_here count place row lt =
    let all : length (nothing count) ≡ count = length-replicate count [] in
    let there : place < length (nothing count) = omega arith in
    get_or-set_same (nothing count) place (row ∷ []) [] there

pub one_row_other : (count place : ℕ) (row : ByteRow) (other : ℕ) → other ≢ place → rows_at (one_row count place row) other ≡ []
one_row_other count place row other apart = get_or-set_other (nothing count) place other (row ∷ []) [] apart ∙ nothing_at count other

pub one_row_has : (count place : ℕ) (row : ByteRow) → place < count → AnyHas (one_row count place row) row
one_row_has count place row lt = (place, Has-front (rows_at (one_row count place row) place) row [] (one_row_here count place row lt))

pub one_row_only : (count place : ℕ) (row : ByteRow) → place < count → (other : ByteRow) → AnyHas (one_row count place row) other → other
    ≡ row
one_row_only count place row lt other has =
    let P : List ByteRow → Type 0 = λ l. Has l other in
    elim (cases_eq has.0 place) [
      | inl here ↦
          let Q : ℕ → Type 0 = λ k. Has (rows_at (one_row count place row) k) other in
          elim (subst P (one_row_here count place row lt) (subst Q here has.1)) [ inl e ↦ e | inr none ↦ absurd none ]
      | inr apart ↦ absurd (subst P (one_row_other count place row has.0 apart) has.1)
    ]
