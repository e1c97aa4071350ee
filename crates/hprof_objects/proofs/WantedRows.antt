-- Identifiers that are wanted, and the rows of their objects.
use Rattle.std.proofs.Common.{◌≡◌, ◌<◌, ◌≤◌, ◌+◌, ◌++◌, ℕ, suc, false, List, [], ◌∷◌, length, get_or, Some}
use Rattle.std.proofs.Common.{refl, sym, ap, subst, ◌∙◌, arith, inl, inr, eqb, leb}
use Rattle.std.specs.Prelude.{slice_get}
use Rattle.std.specs.List.{AllPairs}
use Rattle.std.specs.List.Sorted.{IsStrictlyIncreasing}
use Rattle.std.proofs.lemmas.Bool.Decides.{eqb_tells}
use Rattle.std.proofs.lemmas.Bool.{leb-false}
use Rattle.std.proofs.lemmas.List.Elements.{filter-append}
use Rattle.std.proofs.lemmas.List.Kept.{AllPairs-from_increasing}
use Rattle.hprof_merge.specs.Rows.{ByteRow, Has}
use Rattle.hprof_objects.specs.Wanted.{AreFrom, Rises, is_among, wanted_rows}

-- two numbers that differ
pub differ : (one other : ℕ) → (one ≡ other → ⊥) → eqb one other ≡ false
differ one other never = elim (eqb_tells one other) [
  | inl same ↦ absurd (never same.1)
  | inr told ↦ told.0
]

-- ---- lists that rise

pub from_lower : (low key : ℕ) (ids : List ℕ) → low ≤ key → AreFrom key ids → AreFrom low ids
from_lower low key [] le from = tt
from_lower low key (id ∷ ids) le from = let first = from.0 in (omega (arith, first, le), from_lower low key ids le from.1)

-- none of those above a key is the key, or below it
pub above_among : (key : ℕ) (ids : List ℕ) → AreFrom (key + 1) ids → (id : ℕ) → id ≤ key → is_among ids id ≡ false
above_among key [] from id le = refl
above_among key (first ∷ ids) from id le =
    let lt = from.0 in
    let ne : eqb first id ≡ false = differ first id (λ same. absurd (omega (arith, lt, le, same))) in
    rw ne (above_among key ids from.1 id le)

-- without one below the key the same are left from the key on
pub passed_among : (first : ℕ) (ids : List ℕ) (id : ℕ) → first < id → is_among (first ∷ ids) id ≡ is_among ids id
passed_among first ids id lt =
    let ne : eqb first id ≡ false = differ first id (λ same. absurd (omega (arith, lt, same))) in
    rw ne refl

-- the first is the key, or no one is
pub first_among : (first : ℕ) (ids : List ℕ) (key : ℕ) → Rises (first ∷ ids) → AreFrom key (first ∷ ids)
    → is_among (first ∷ ids) key ≡ eqb first key
first_among first ids key rises from = elim (eqb_tells first key) [
  | inl same ↦ rw same.0 refl
  | inr told ↦
      let le = from.0 in
      let none : is_among ids key ≡ false =
      above_among first ids rises.0 key le in
      rw told.0 none
]

-- none is below a key that the first is not below
pub rises_above : (key first : ℕ) (ids : List ℕ) → key ≤ first → Rises (first ∷ ids) → AreFrom key (first ∷ ids)
rises_above key first ids le rises = (le, from_lower key (first + 1) ids (omega (arith, le)) rises.0)

-- none is at most a key that is below the first
pub none_among : (key first : ℕ) (ids : List ℕ) → key < first → Rises (first ∷ ids) → (id : ℕ) → id ≤ key
    → is_among (first ∷ ids) id ≡ false
none_among key first ids lt rises id le =
    above_among key (first ∷ ids) (rises_above (key + 1) first ids (omega (arith, lt)) rises) id le

-- ---- the first of them

pub none_up_to : (ids : List ℕ) (first key : ℕ) → Some first ≡ slice_get ids 0 → Rises ids → leb first key ≡ false → (id : ℕ) → id ≤ key
    → is_among ids id ≡ false
none_up_to [] first key is rises above = absurd cc
none_up_to (other ∷ ids) first key is rises above =
    let same : first ≡ other = cc in
    let lt : key < other = subst (λ (n : ℕ). key < n) same (leb-false first key above) in
    none_among key other ids lt rises

pub first_is_key : (ids : List ℕ) (first key : ℕ) → Some first ≡ slice_get ids 0 → Rises ids → AreFrom key ids
    → eqb first key ≡ is_among ids key
first_is_key [] first key is rises from = absurd cc
first_is_key (other ∷ ids) first key is rises from =
    let same : first ≡ other = cc in
    ap (λ (n : ℕ). eqb n key) same ∙ sym (first_among other ids key rises from)

rises_from : (xs : List ℕ) → AllPairs (λ one other. one < other) xs → Rises xs
rises_from [] up = tt
rises_from (x ∷ xs) up = (
  above xs (λ j d lt. up 0 (suc j) d (omega arith) (omega arith)),
  rises_from xs (λ i j d lt in_list. up (suc i) (suc j) d (omega arith) (omega arith)),
)
  where
    above : (ys : List ℕ) → ((j d : ℕ) → j < length ys → x < get_or ys j d) → AreFrom (x + 1) ys
    above [] all = tt
    above (y ∷ ys) all = (let lt = all 0 0 (omega arith) in omega (arith, lt), above ys (λ j d lt. all (suc j) d (omega arith)))

pub rises : (xs : List ℕ) → IsStrictlyIncreasing xs → Rises xs
rises xs up = rises_from xs (AllPairs-from_increasing xs up)

-- ---- the rows that are wanted

pub wanted-append : (wanted : List ℕ) (rows more : List ByteRow)
    → wanted_rows wanted (rows ++ more) ≡ wanted_rows wanted rows ++ wanted_rows wanted more
wanted-append wanted rows more = filter-append (λ (row : ByteRow). is_among wanted row.0) rows more

-- the same are wanted of rows where the same keys are
pub wanted-same : (wanted others : List ℕ) (rows : List ByteRow)
    → ((row : ByteRow) → Has rows row → is_among others row.0 ≡ is_among wanted row.0)
    → wanted_rows others rows ≡ wanted_rows wanted rows
wanted-same wanted others [] same = refl
wanted-same wanted others (row ∷ rows) same =
    let here = same row (inl refl) in
    let behind = wanted-same wanted others rows (λ other has. same other (inr has)) in
    cc

-- none is wanted
pub wanted-none : (wanted : List ℕ) (rows : List ByteRow) → ((row : ByteRow) → Has rows row → is_among wanted row.0 ≡ false)
    → wanted_rows wanted rows ≡ []
wanted-none wanted [] none = refl
wanted-none wanted (row ∷ rows) none =
    let here = none row (inl refl) in
    let behind = wanted-none wanted rows (λ other has. none other (inr has)) in
    rw here behind
