-- The order of facts.
use Rattle.std.proofs.Common.{◌≡◌, ℕ, Bool, true, false, List, [], ◌∷◌, Some, refl, sym, ap, subst, ◌∙◌, inl, inr}
use Rattle.std.specs.Ordering.{nat_cmp, ordering_reverse, is_lt, is_eq}
use Rattle.std.specs.Cmp.Lexicographic.{slice_cmp}
use Rattle.std.specs.declared.cmp.Ordering.{Ordering}
use Rattle.std.specs.declared.cmp.Ordering.TheVariants.{Less, Equal, Greater}
use Rattle.std.proofs.lemmas.Cmp.{nat_list_cmp_total}
use Rattle.std.proofs.lemmas.Map.Text.{is_eq-slice_cmp}
use Rattle.hprof_items.specs.FactValue.{FactValue}
use Rattle.hprof_rows.specs.declared.key.Key.{Key}
use Rattle.hprof_rows.specs.Key.{key_of}
use Rattle.hprof_rows.specs.Facts.{Has, SameFacts}
use Rattle.hprof_rows.specs.Conflict.{IsConsistent}
use Rattle.hprof_rows.specs.Order.{order_of, IsBefore, IsCanonicalOrder}
use Rattle.hprof_rows.proofs.Keys.{same_place, one_key_place}
use Rattle.hprof_rows.proofs.FactSets.{All-has, SameFacts-sym}

-- ---- two facts

-- facts stand in one order
pub IsBefore-trans : (one other more : FactValue) → IsBefore one other → IsBefore other more → IsBefore one more
IsBefore-trans one other more a b = nat_list_cmp_total.trans (order_of one) (order_of other) (order_of more) a b

-- an order that is its own reverse is none of the two
not_both : (o p : Ordering) → o ≡ Less → p ≡ Less → o ≡ ordering_reverse p → ⊥
not_both o p a b e = let clash : Less ≡ Greater = sym a ∙ e ∙ ap ordering_reverse b in absurd cc

-- no two facts stand before each other
pub IsBefore-asym : (one other : FactValue) → IsBefore one other → IsBefore other one → ⊥
IsBefore-asym one other a b =
    not_both (slice_cmp nat_cmp (order_of one) (order_of other)) (slice_cmp nat_cmp (order_of other) (order_of one)) a b
    (nat_list_cmp_total.antisymm (order_of one) (order_of other))

-- nor one before itself
IsBefore-place : (one other : FactValue) → order_of one ≡ order_of other → IsBefore one other → ⊥
IsBefore-place one other same a =
    IsBefore-asym one other a
    (subst (λ (p : List ℕ). slice_cmp nat_cmp p (order_of one) ≡ Less) same
    (subst (λ (p : List ℕ). slice_cmp nat_cmp (order_of one) p ≡ Less) (sym same) a))

-- a fact stands before none of its key
pub IsBefore-key : (one other : FactValue) (key : Key) → IsBefore one other → key_of one ≡ Some key → key_of other ≡ Some key → ⊥
IsBefore-key one other key before e f =
    IsBefore-place one other (one_key_place one other (record { key = key; key_of_one = e; key_of_other = f })) before

-- whether the first fact stands before the second
abbrev pub is_before : FactValue → FactValue → Bool
is_before fact other = is_lt (slice_cmp nat_cmp (order_of fact) (order_of other))

less_by : (o : Ordering) → is_lt o ≡ true → o ≡ Less
less_by Less e = refl
less_by Equal e = absurd cc
less_by Greater e = absurd cc

-- what the test of two facts tells
pub is_before-true : (one other : FactValue) → is_before one other ≡ true → IsBefore one other
is_before-true one other e = less_by (slice_cmp nat_cmp (order_of one) (order_of other)) e

greater_by : (o : Ordering) → is_lt o ≡ false → is_eq o ≡ false → o ≡ Greater
greater_by Less e f = absurd cc
greater_by Equal e f = absurd cc
greater_by Greater e f = refl

-- of two facts at two places one stands before the other
pub is_before-false : (one other : FactValue) → is_before one other ≡ false → same_place one other ≡ false → IsBefore other one
is_before-false one other e f =
    let apart = greater_by (slice_cmp nat_cmp (order_of one) (order_of other)) e (is_eq-slice_cmp (order_of one) (order_of other) ∙ f) in
    nat_list_cmp_total.antisymm (order_of other) (order_of one) ∙ ap ordering_reverse apart

-- ---- lists in order

-- facts in order agree
pub order_agrees : (rows : List FactValue) → IsCanonicalOrder rows → IsConsistent rows
order_agrees [] ordered key one other has_one has_other k l = absurd has_one
order_agrees (row ∷ rows) ordered key one other (inl e) (inl f) k l = e ∙ sym f
order_agrees (row ∷ rows) ordered key one other (inl e) (inr has) k l =
    let before : IsBefore one other =
    subst (λ (x : FactValue). IsBefore x other) (sym e) (All-has (IsBefore row) rows other ordered.0 has) in
    absurd (IsBefore-key one other key before k l)
order_agrees (row ∷ rows) ordered key one other (inr has) (inl f) k l =
    let before : IsBefore other one = subst (λ (x : FactValue). IsBefore x one) (sym f) (All-has (IsBefore row) rows one ordered.0 has) in
    absurd (IsBefore-key other one key before l k)
order_agrees (row ∷ rows) ordered key one other (inr has) (inr too) k l = order_agrees rows ordered.1 key one other has too k l

-- two lists in order that have each other's first facts have one first fact
heads_same : (x y : FactValue) (xs ys : List FactValue) → IsCanonicalOrder (x ∷ xs) → IsCanonicalOrder (y ∷ ys) → Has (y ∷ ys) x
    → Has (x ∷ xs) y → x ≡ y
heads_same x y xs ys p q (inl e) there = e
heads_same x y xs ys p q (inr here) (inl f) = sym f
heads_same x y xs ys p q (inr here) (inr there) =
    absurd (IsBefore-asym x y (All-has (IsBefore x) xs y p.0 there) (All-has (IsBefore y) ys x q.0 here))

-- behind one first fact they have the same facts
tail_has : (x : FactValue) (xs ys : List FactValue) → IsCanonicalOrder (x ∷ xs) → SameFacts (x ∷ xs) (x ∷ ys) → (fact : FactValue)
    → Has xs fact → Has ys fact
tail_has x xs ys p same fact has = elim ((same fact).0 (inr has)) [
  | inl e ↦ let before : IsBefore x x = subst (IsBefore x) e (All-has (IsBefore x) xs fact p.0 has) in absurd
      (IsBefore-asym x x before before)
  | inr there ↦ there
]

-- the same facts in order are the same list
pub one_order : (rows others : List FactValue) → IsCanonicalOrder rows → IsCanonicalOrder others → SameFacts rows others → rows ≡ others
one_order [] [] p q same = refl
one_order [] (y ∷ ys) p q same = absurd ((same y).1 (inl refl))
one_order (x ∷ xs) [] p q same = absurd ((same x).0 (inl refl))
one_order (x ∷ xs) (y ∷ ys) p q same =
    let e : x ≡ y = heads_same x y xs ys p q ((same x).0 (inl refl)) ((same y).1 (inl refl)) in
    let r : IsCanonicalOrder (x ∷ ys) = subst (λ (z : FactValue). IsCanonicalOrder (z ∷ ys)) (sym e) q in
    let with : SameFacts (x ∷ xs) (x ∷ ys) = subst (λ (z : FactValue). SameFacts (x ∷ xs) (z ∷ ys)) (sym e) same in
    let rest : xs ≡ ys = one_order xs ys p.1 q.1 (λ fact.
    (tail_has x xs ys p with fact, tail_has x ys xs r (SameFacts-sym (x ∷ xs) (x ∷ ys) with) fact)) in
    cc
