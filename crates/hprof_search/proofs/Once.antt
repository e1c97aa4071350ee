-- A number that is put behind others.
use Rattle.std.proofs.Common.{◌≡◌, ◌<◌, ◌++◌, ◌||◌, ◌∙◌, ℕ, Bool, true, false, List, [], ◌∷◌, get_or, length, nat_eq, slice_set}
use Rattle.std.proofs.Common.{zero, suc, replicate, slice_index, refl, sym, ap, subst, inl, inr, arith}
use Rattle.std.specs.List.{AllByRecursion, IsDistinct, list_any}
use Rattle.std.proofs.lemmas.Bool.{cases_Bool}
use Rattle.std.proofs.lemmas.Bool.Decides.{Decides-eqb}
use Rattle.std.proofs.Math.ListN.{length-set}
use Rattle.std.proofs.lemmas.List.{get_or-replicate, get_or-set_same, get_or-set_other, length-replicate}
use Rattle.std.proofs.lemmas.List.Folds.{list_any-append}
use Rattle.hprof_search.specs.Kept.{LeadsBack, OrdersFound}

-- ---- distinct numbers

neither : (one other : Bool) → (one || other) ≡ false → (one ≡ false) × (other ≡ false)
neither false other is = (refl, is)
neither true other is = absurd cc

differ : (one other : ℕ) → nat_eq one other ≡ false → one ≡ other → ⊥
differ one other apart same =
    let is = (Decides-eqb one other).1 same in let never : true ≡ false = sym is ∙ apart in cc

turned : (one other : ℕ) → nat_eq one other ≡ false → nat_eq other one ≡ false
turned one other apart = elim (cases_Bool (nat_eq other one)) [
  | inl same ↦ absurd (differ one other apart (sym ((Decides-eqb other one).0 same)))
  | inr not ↦ not
]

all_more : (P : ℕ → Type 0) (items : List ℕ) (number : ℕ) → AllByRecursion P items → P number → AllByRecursion P (items ++ number ∷ [])
all_more P [] number all one = (one, tt)
all_more P (first ∷ rest) number all one = (all.0, all_more P rest number all.1 one)

-- one that is not among them
pub distinct_more : (items : List ℕ) (number : ℕ) → list_any (nat_eq number) items ≡ false → IsDistinct nat_eq items
    → IsDistinct nat_eq (items ++ number ∷ [])
unfolding IsDistinct
distinct_more [] number absent once = (tt, tt)
distinct_more (first ∷ rest) number absent once =
    let both = neither (nat_eq number first) (list_any (nat_eq number) rest) absent in (
      all_more (λ (other : ℕ). nat_eq first other ≡ false) rest number once.0 (turned number first both.0),
      distinct_more rest number both.1 once.1,
    )

pub distinct_none : (items : List ℕ) → items ≡ [] → IsDistinct nat_eq items
unfolding IsDistinct
distinct_none items none = subst (IsDistinct nat_eq) (sym none) tt

-- ---- numbers that were found

or_true : (one : Bool) → (one || (true || false)) ≡ true
or_true false = refl
or_true true = refl

or_false : (one : Bool) → (one || (false || false)) ≡ one
or_false false = refl
or_false true = refl

-- it is found now, and stands in the order
pub ordered_more : (found : List Bool) (order : List ℕ) (number : ℕ) → number < length found → OrdersFound found order
    → OrdersFound (slice_set found number true) (order ++ number ∷ [])
ordered_more found order number within ordered other =
    let any = list_any (nat_eq other) order in
    list_any-append (nat_eq other) order (number ∷ [])
    ∙ elim (cases_Bool (nat_eq other number)) [
      | inl same ↦
          let is : other ≡ number = (Decides-eqb other number).0 same in
          ap (λ (b : Bool). any || (b || false)) same ∙ or_true any
          ∙ sym (subst (λ (n : ℕ). get_or (slice_set found number true) n false ≡ true) (sym is)
          (get_or-set_same found number true false within))
      | inr apart ↦
          ap (λ (b : Bool). any || (b || false)) apart ∙ or_false any ∙ ordered other
          ∙ sym (get_or-set_other found number other true false (differ other number apart))
    ]

no_number : (count place : ℕ) → get_or (replicate count false) place false ≡ false
no_number zero place = refl
no_number (suc count) zero = refl
no_number (suc count) (suc place) = no_number count place

-- none is found yet
pub none_found : (found : List Bool) (order : List ℕ) (count : ℕ) → found ≡ replicate count false → order ≡ [] → OrdersFound found order
none_found found order count is none number =
    ap (list_any (nat_eq number)) none ∙ sym (ap (λ (bs : List Bool). get_or bs number false) is ∙ no_number count number)

pub none_leads : (before : List ℕ) (count : ℕ) → before ≡ replicate count 0 → LeadsBack before
none_leads before count is number within =
    let below : number < count = omega (arith, ap length is, length-replicate {A = ℕ} count 0) in
    let zero_there : slice_index before number ≡ 0 =
    ap (λ (ns : List ℕ). slice_index ns number) is ∙ get_or-replicate count number 0 0 below in
    omega (arith, zero_there)

-- and it is kept from which
pub leads_more : (before new : List ℕ) (number from : ℕ) → LeadsBack before → new ≡ slice_set before number from → number < length before
    → from < length before → LeadsBack new
leads_more before new number from leads is within from_within other below =
    let long : length new ≡ length before = ap length is ∙ length-set before number from in
    let at : slice_index new other ≡ get_or (slice_set before number from) other 0 = ap (λ (ns : List ℕ). get_or ns other 0) is in
    elim (cases_Bool (nat_eq other number)) [
      | inl same ↦
          let here : get_or (slice_set before number from) other 0 ≡ from =
          subst (λ (n : ℕ). get_or (slice_set before number from) n 0 ≡ from) (sym ((Decides-eqb other number).0 same))
          (get_or-set_same before number from 0 within) in
          omega (arith, at, here, long, from_within)
      | inr apart ↦
          let there = get_or-set_other before number other from 0 (differ other number apart) in
          let old = leads other (omega (arith, long, below)) in
          omega (arith, at, there, long, old)
    ]
