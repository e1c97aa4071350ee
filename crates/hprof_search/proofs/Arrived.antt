-- A number is found.
use Rattle.std.proofs.Common.{◌≡◌, ◌⊎◌, ◌<◌, ◌+◌, ℕ, Bool, true, false, not, cond, List, [], ◌∷◌, ◌++◌, Contains, length, slice_index}
use Rattle.std.proofs.Common.{slice_set, get_or, count_by, inl, inr, refl, sym, ap, subst, ◌∙◌, arith, add-zero, append-nil, length-append}
use Rattle.std.proofs.Math.ListN.{length-set}
use Rattle.std.proofs.lemmas.List.{get_or-set_same, get_or-set_other}
use Rattle.std.proofs.lemmas.List.Elements.{Contains-push, Contains-push_cases, Contains-append_left}
use Rattle.std.proofs.lemmas.List.Sums.{sum_by-set}
use Rattle.std.proofs.lemmas.Bool.{cases_order}
use Rattle.hprof_search.specs.Finds.{Finds, Follows, Arrives, is_found}

one_or_other : (one other : ℕ) → (one ≡ other) ⊎ (one ≡ other → ⊥)
one_or_other one other = elim (cases_order one other) [
  | inl same ↦ inl same
  | inr apart ↦ inr (λ same. elim apart [ inl lt ↦ omega arith | inr gt ↦ omega arith ])
]

module _ (old new : Finds) (number from : ℕ) (below : number < length old.found) (within : number < length old.before)
    (unfound : is_found old number ≡ false) (found : new.found ≡ slice_set old.found number true)
    (before : new.before ≡ slice_set old.before number from) (order : new.order ≡ old.order ++ number ∷ [])
    (next : new.next ≡ old.next ++ number ∷ []) where
  here : is_found new number ≡ true
  here = ap (λ (bs : List Bool). get_or bs number false) found ∙ get_or-set_same old.found number true false below

  there : (other : ℕ) → (other ≡ number → ⊥) → is_found new other ≡ is_found old other
  there other apart = ap (λ (bs : List Bool). get_or bs other false) found ∙ get_or-set_other old.found number other true false apart

  from_here : slice_index new.before number ≡ from
  from_here = ap (λ (ns : List ℕ). slice_index ns number) before ∙ get_or-set_same old.before number from 0 within

  from_there : (other : ℕ) → (other ≡ number → ⊥) → slice_index new.before other ≡ slice_index old.before other
  from_there other apart = ap (λ (ns : List ℕ). slice_index ns other) before ∙ get_or-set_other old.before number other from 0 apart

  not_here : (other : ℕ) → is_found old other ≡ true → other ≡ number → ⊥
  not_here other was same = let e = ap (is_found old) same in absurd (cc)

  only_here : (other : ℕ) → is_found old other ≡ false → is_found new other ≡ true → other ≡ number
  only_here other was is = elim (one_or_other other number) [
    | inl same ↦ same
    | inr apart ↦ let e = there other apart in absurd (cc)
  ]

  has_next : (other : ℕ) → Contains new.next other → Contains old.next other ⊎ ((is_found old other ≡ false) × (is_found new other ≡ true))
  has_next other has = elim (Contains-push_cases old.next number other (subst (λ (ns : List ℕ). Contains ns other) next has)) [
    | inl was ↦ inl was
    | inr same ↦ inr (ap (is_found old) (sym same) ∙ unfound, ap (is_found new) (sym same) ∙ here)
  ]

  is_next : (other : ℕ) → Contains old.next other ⊎ ((is_found old other ≡ false) × (is_found new other ≡ true)) → Contains new.next other
  is_next other either = subst (λ (ns : List ℕ). Contains ns other) (sym next) (elim either [
    | inl was ↦ Contains-append_left old.next (number ∷ []) other was
    | inr came ↦ subst (Contains (old.next ++ number ∷ [])) (sym (only_here other came.0 came.1)) (Contains-push old.next number)
  ])

  fewer : count_by not (slice_set old.found number true) + 1 ≡ count_by not old.found
  fewer =
      let one : cond (not (is_found old number)) 1 0 ≡ 1 = ap (λ (b : Bool). cond (not b) 1 0) unfound in
      ap (λ (n : ℕ). count_by not (slice_set old.found number true) + n) (sym one)
      ∙ sum_by-set (λ (b : Bool). cond (not b) 1 0) old.found number true false below ∙ add-zero (count_by not old.found)

  one_more : count_by not new.found + length new.next ≡ count_by not old.found + length old.next
  one_more =
      let less = fewer in
      let same : count_by not new.found ≡ count_by not (slice_set old.found number true) = ap (count_by not) found in
      let longer : length new.next ≡ length old.next + 1 = ap (length {A = ℕ}) next ∙ length-append old.next (number ∷ []) in
      omega arith

  pub arrived : Follows (Arrives from number) old new
  arrived = record {
    as_many = ap (length {A = Bool}) found ∙ length-set old.found number true;
    stays = λ other was. (there other (not_here other was) ∙ was, from_there other (not_here other was));
    came = λ other was is.
        let same = only_here other was is in
        let e = ap (slice_index new.before) same ∙ from_here in
        record { led = (e, same); least = λ one led. let is = led.0 in omega arith };
    all = λ one other low led. ap (is_found new) led.1 ∙ here;
    next = λ other. (has_next other, is_next other);
    order = (number ∷ [], order, next);
    counted = one_more;
  }

-- what was found before is not found again
pub arrived_again : (old : Finds) (number from : ℕ) → is_found old number ≡ true → Follows (Arrives from number) old old
arrived_again old number from found = record {
  as_many = refl;
  stays = λ other was. (was, refl);
  came = λ other was is. absurd (cc);
  all = λ one other low led. ap (is_found old) led.1 ∙ found;
  next = λ other. (λ has. inl has, λ either. elim either [ inl has ↦ has | inr both ↦ let no = both.0 in let yes = both.1 in absurd (cc) ]);
  order = ([], sym (append-nil old.order), sym (append-nil old.next));
  counted = refl;
}
