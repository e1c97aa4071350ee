-- The elements of an array that are told, one after the other.
use Rattle.std.proofs.Common.{◌≡◌, ◌==◌, ◌≤◌, ◌<◌, ℕ, ◌+◌, ◌-◌, zero, suc, Bool, true, false, cond, List, [], ◌∷◌, ◌++◌, length, map, take}
use Rattle.std.proofs.Common.{refl, ap, arith, ◌∙◌}
use Rattle.std.specs.Prelude.{nat_le}
use Rattle.std.proofs.lemmas.Bool.{eqb-true, false_from_ne_true, leb-false, leb-true}
use Rattle.hprof_lines.specs.Line.{text_of_lines}
use Rattle.hprof_describe.specs.Findings.{Findings}
use Rattle.hprof_show.specs.ElementLines.{Element, element_line, elements_text, more_line, nulls_line}
use Rattle.hprof_show.specs.ElementLines.{present_from, present_text, told_line}
use Rattle.hprof_show.proofs.Regrouped.{three}

-- those that are told of the elements from that place on, behind so many that were told
abbrev pub told_text : Findings → (told place : ℕ) → List ℕ → List ℕ
told_text found told place ids = text_of_lines (map (element_line found) (take (100 - told) (present_from place ids)))

-- at most as many are there as there are elements
few_more : (place id : ℕ) (ids : List ℕ) (elements : List Element) (t : Bool) → length elements ≤ length ids
    → length (cond t elements ((record { place = place; id = id }) ∷ elements)) ≤ length (id ∷ ids)
few_more place id ids elements true few = omega arith
few_more place id ids elements false few = omega arith

pub present_few : (place : ℕ) (ids : List ℕ) → length (present_from place ids) ≤ length ids
unfolding present_from
present_few place [] = omega arith
present_few place (id ∷ ids) = few_more place id ids (present_from (place + 1) ids) (id == 0) (present_few (place + 1) ids)

-- an element is told, if not too many were
told_one : (found : Findings) (told : ℕ) (element : Element) (elements : List Element) (t : Bool) → nat_le 100 told ≡ t
    → text_of_lines (map (element_line found) (take (100 - told) (element ∷ elements)))
    ≡ cond t [] (element_line found element) ++ text_of_lines (map (element_line found) (take (100 - (told + 1)) elements))
told_one found told element elements true is =
    let enough : 100 ≤ told = leb-true 100 told is in
    let none : 100 - told ≡ 0 = omega arith in
    let none_more : 100 - (told + 1) ≡ 0 = omega arith in
    rw (none, none_more) refl
told_one found told element elements false is =
    let few : told < 100 = leb-false 100 told is in
    let one : 100 - told ≡ suc (100 - (told + 1)) = omega arith in
    rw one refl

not_null : (id : ℕ) → (id ≡ 0 → ⊥) → (id == 0) ≡ false
not_null id other = false_from_ne_true (id == 0) (λ yes. other (eqb-true id 0 yes))

-- a 0 is not told, another element is
null_told : (found : Findings) (told place id : ℕ) (ids : List ℕ) → id ≡ 0
    → told_text found told place (id ∷ ids) ≡ told_line found told place id ++ told_text found told (place + 1) ids
unfolding present_from
null_told found told place id ids e = rw e refl

other_told : (found : Findings) (told place id : ℕ) (ids : List ℕ) → (id ≡ 0 → ⊥)
    → told_text found told place (id ∷ ids) ≡ told_line found told place id ++ told_text found (told + 1) (place + 1) ids
unfolding present_from
other_told found told place id ids other =
    let e : (id == 0) ≡ false = not_null id other in
    rw e (told_one found told (record { place = place; id = id }) (present_from (place + 1) ids) (nat_le 100 told) refl)

some_told : (found : Findings) (told place id : ℕ) (ids : List ℕ) (t : Bool) → (id == 0) ≡ t
    → (others : List ℕ) × (told_text found told place (id ∷ ids) ≡ told_line found told place id ++ others)
some_told found told place id ids true is = (told_text found told (place + 1) ids, null_told found told place id ids (eqb-true id 0 is))
some_told found told place id ids false is = (
  told_text found (told + 1) (place + 1) ids,
  other_told found told place id ids (λ null. let e : (id == 0) ≡ true = ap (λ (n : ℕ). n == 0) null in cc),
)

-- the same of elements of which this is the first
module _ (found : Findings) (told place id : ℕ) (ids all : List ℕ) (first : all ≡ id ∷ ids) where
  pub null_next : id ≡ 0 → told_text found told place all ≡ told_line found told place id ++ told_text found told (place + 1) ids
  null_next null = ap (told_text found told place) first ∙ null_told found told place id ids null

  pub other_next : (id ≡ 0 → ⊥)
      → told_text found told place all ≡ told_line found told place id ++ told_text found (told + 1) (place + 1) ids
  other_next other = ap (told_text found told place) first ∙ other_told found told place id ids other

  pub some_next : (others : List ℕ) × (told_text found told place all ≡ told_line found told place id ++ others)
  some_next = let it = some_told found told place id ids (id == 0) refl in (it.0, ap (told_text found told place) first ∙ it.1)

-- how many there are
null_counted : (place id : ℕ) (ids : List ℕ) → id ≡ 0 → length (present_from place (id ∷ ids)) ≡ length (present_from (place + 1) ids)
unfolding present_from
null_counted place id ids e = rw e refl

other_counted : (place id : ℕ) (ids : List ℕ) → (id ≡ 0 → ⊥)
    → length (present_from place (id ∷ ids)) ≡ length (present_from (place + 1) ids) + 1
unfolding present_from
other_counted place id ids other = let e : (id == 0) ≡ false = not_null id other in rw e (omega arith)

module _ (place id : ℕ) (ids all : List ℕ) (first : all ≡ id ∷ ids) where
  pub null_count : id ≡ 0 → length (present_from place all) ≡ length (present_from (place + 1) ids)
  null_count null = ap (λ (l : List ℕ). length (present_from place l)) first ∙ null_counted place id ids null

  pub other_count : (id ≡ 0 → ⊥) → length (present_from place all) ≡ length (present_from (place + 1) ids) + 1
  other_count other = ap (λ (l : List ℕ). length (present_from place l)) first ∙ other_counted place id ids other

-- behind the last there are none
pub none_told : (found : Findings) (told place : ℕ) (ids : List ℕ) → ids ≡ [] → told_text found told place ids ≡ []
unfolding present_from
none_told found told place ids none = rw none (none_taken (100 - told)) where
  none_taken : (n : ℕ) → text_of_lines (map (element_line found) (take n [])) ≡ []
  none_taken zero = refl
  none_taken (suc n) = refl

pub none_counted : (place : ℕ) (ids : List ℕ) → ids ≡ [] → length (present_from place ids) ≡ 0
unfolding present_from
none_counted place ids none = rw none refl

-- all that is told of the elements
pub elements_parts : (found : Findings) (all : List ℕ) (count len : ℕ) → count ≡ length (present_from 0 all) → len ≡ length all
    → present_text found all ++ (more_line 100 count ++ nulls_line (len - count)) ≡ elements_text found all
unfolding elements_text
elements_parts found all count len e f =
    rw (e, f)
    (three (present_text found all) (more_line 100 (length (present_from 0 all)))
    (nulls_line (length all - length (present_from 0 all))))
