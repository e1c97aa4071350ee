-- Digits without the zeros at their end.
use Rattle.std.proofs.Common.{◌≡◌, ◌≢◌, ℕ, ◌==◌, Bool, true, false, cond, List, [], ◌∷◌, ◌++◌, length, codes, arith, refl, sym, ap, ◌∙◌}
use Rattle.std.specs.List.{All, list_all}
use Rattle.std.proofs.lemmas.List.Elements.{All-nil, All-cons, All-head, All-tail}
use Rattle.std.proofs.lemmas.Bool.{and_parts, eqb-true}
use Rattle.hprof_text.specs.JavaFloats.{without_last_zeros, one_at_least}
use Rattle.hprof_text.proofs.Fronts.{ended}

abbrev pub are_zeros : List ℕ → Bool
are_zeros digits = list_all (λ d. d == 48) digits

are_zeros-push : (front : List ℕ) → are_zeros (front ++ 48 ∷ []) ≡ are_zeros front
are_zeros-push [] = refl
are_zeros-push (d ∷ front) = rw (are_zeros-push front) refl

-- a zero behind the digits changes nothing
pub without_last_zeros-push : (front : List ℕ) → without_last_zeros (front ++ 48 ∷ []) ≡ without_last_zeros front
without_last_zeros-push [] = refl
without_last_zeros-push (d ∷ front) = rw (are_zeros-push front, without_last_zeros-push front) refl

first_is_zero : (d : ℕ) (others : List ℕ) → are_zeros (d ∷ others) ≡ true → (d ≡ 48) × (are_zeros others ≡ true)
first_is_zero d others zeros =
    let parts = and_parts (d == 48) (are_zeros others) zeros in
    (eqb-true d 48 parts.0, parts.1)

-- zeros end with a zero
ends_with_zero : (d : ℕ) (others : List ℕ) → are_zeros (d ∷ others) ≡ true → (front : List ℕ) × (d ∷ others ≡ front ++ 48 ∷ [])
ends_with_zero d [] zeros = ([], ap (λ (n : ℕ). n ∷ []) (first_is_zero d [] zeros).0)
ends_with_zero d (e ∷ more) zeros =
    let rest = ends_with_zero e more (first_is_zero d (e ∷ more) zeros).1 in
    (d ∷ rest.0, ap (λ (l : List ℕ). d ∷ l) rest.1)

-- digits that end with no zero stay
pub without_last_zeros-same : (digits : List ℕ) → ((front : List ℕ) → digits ≢ front ++ 48 ∷ []) → without_last_zeros digits ≡ digits
without_last_zeros-same [] ends = refl
without_last_zeros-same (d ∷ others) ends =
    by (are_zeros (d ∷ others)) refl (without_last_zeros-same others (λ front e. ends (d ∷ front) (ap (λ (l : List ℕ). d ∷ l) e)))
  where
    by : (zeros : Bool) → are_zeros (d ∷ others) ≡ zeros → without_last_zeros others ≡ others
        → cond zeros [] (d ∷ without_last_zeros others) ≡ d ∷ others
    by true e same = let last = ends_with_zero d others e in absurd (ends last.0 last.1)
    by false e same = ap (λ (l : List ℕ). d ∷ l) same

-- ---- one digit at least

pub one_at_least-none : (kept shown : List ℕ) → (length kept == 0) ≡ true → shown ≡ codes "0" → shown ≡ one_at_least kept
one_at_least-none [] shown empty e = e
one_at_least-none (d ∷ kept) shown empty e = let none = ended (d ∷ kept) empty in absurd cc

pub one_at_least-some : (kept shown : List ℕ) → (length kept == 0) ≡ false → shown ≡ kept → shown ≡ one_at_least kept
one_at_least-some [] shown some e = absurd cc
one_at_least-some (d ∷ kept) shown some e = e

-- ---- digits that are as many and are the same without their last zeros are the same

without_last_zeros-zeros : (digits : List ℕ) → are_zeros digits ≡ true → without_last_zeros digits ≡ []
without_last_zeros-zeros [] zeros = refl
without_last_zeros-zeros (d ∷ others) zeros = rw zeros refl

-- the digit in front stays where not all are zeros
without_last_zeros-some : (d : ℕ) (others : List ℕ) → are_zeros (d ∷ others) ≡ false
    → without_last_zeros (d ∷ others) ≡ d ∷ without_last_zeros others
without_last_zeros-some d others some = rw some refl

are_zeros-none : (digits : List ℕ) → without_last_zeros digits ≡ [] → are_zeros digits ≡ true
are_zeros-none [] none = refl
are_zeros-none (d ∷ others) none = by (are_zeros (d ∷ others)) refl
  where
    by : (zeros : Bool) → are_zeros (d ∷ others) ≡ zeros → zeros ≡ true
    by true e = refl
    by false e = let some = without_last_zeros-some d others e in absurd cc

-- nor is a zero left alone
without_last_zeros-not_zero : (digits : List ℕ) → without_last_zeros digits ≢ codes "0"
without_last_zeros-not_zero [] e = absurd cc
without_last_zeros-not_zero (d ∷ others) e = by (are_zeros (d ∷ others)) refl
  where
    by : (zeros : Bool) → are_zeros (d ∷ others) ≡ zeros → ⊥
    by true z = let none = without_last_zeros-zeros (d ∷ others) z in cc
    by false z =
        let some = without_last_zeros-some d others z in
        let rest : without_last_zeros others ≡ [] = cc in
        let first : d ≡ 48 = cc in
        let zeros : are_zeros (d ∷ others) ≡ true = rw (first, are_zeros-none others rest) refl in
        cc

one_at_least_injective : (kept other : List ℕ) → kept ≢ codes "0" → other ≢ codes "0"
    → one_at_least kept ≡ one_at_least other → kept ≡ other
one_at_least_injective [] [] left right e = refl
one_at_least_injective [] (d ∷ other) left right e = absurd (right (sym e))
one_at_least_injective (c ∷ kept) [] left right e = absurd (left e)
one_at_least_injective (c ∷ kept) (d ∷ other) left right e = e

without_last_zeros_injective : (xs ys : List ℕ) → length xs ≡ length ys → without_last_zeros xs ≡ without_last_zeros ys → xs ≡ ys
without_last_zeros_injective [] [] sized e = refl
without_last_zeros_injective [] (y ∷ ys) sized e = absurd (omega arith)
without_last_zeros_injective (x ∷ xs) [] sized e = absurd (omega arith)
without_last_zeros_injective (x ∷ xs) (y ∷ ys) sized e =
    by (are_zeros (x ∷ xs)) (are_zeros (y ∷ ys)) refl refl (without_last_zeros_injective xs ys (omega arith))
  where
    by : (z w : Bool) → are_zeros (x ∷ xs) ≡ z → are_zeros (y ∷ ys) ≡ w
        → (without_last_zeros xs ≡ without_last_zeros ys → xs ≡ ys) → x ∷ xs ≡ y ∷ ys
    by true true p q same =
        let left = first_is_zero x xs p in
        let right = first_is_zero y ys q in
        let rest = same (without_last_zeros-zeros xs left.1 ∙ sym (without_last_zeros-zeros ys right.1)) in
        cc
    by true false p q same =
        let none = without_last_zeros-zeros (x ∷ xs) p in
        let some = without_last_zeros-some y ys q in absurd cc
    by false true p q same =
        let some = without_last_zeros-some x xs p in
        let none = without_last_zeros-zeros (y ∷ ys) q in absurd cc
    by false false p q same =
        let left = without_last_zeros-some x xs p in
        let right = without_last_zeros-some y ys q in
        let rest = same (cc) in
        cc

pub shown_injective : (xs ys : List ℕ) → length xs ≡ length ys
    → one_at_least (without_last_zeros xs) ≡ one_at_least (without_last_zeros ys) → xs ≡ ys
shown_injective xs ys sized e =
    without_last_zeros_injective xs ys sized
    (one_at_least_injective (without_last_zeros xs) (without_last_zeros ys)
    (without_last_zeros-not_zero xs) (without_last_zeros-not_zero ys) e)

-- ---- what holds of each digit, and of `0`, holds of each that is shown

All-without_last_zeros : (P : ℕ → Type 0) (digits : List ℕ) → All P digits → All P (without_last_zeros digits)
All-without_last_zeros P [] all = all
All-without_last_zeros P (d ∷ others) all =
    by (are_zeros (d ∷ others)) (All-without_last_zeros P others (All-tail P d others all))
  where
    by : (zeros : Bool) → All P (without_last_zeros others) → All P (cond zeros [] (d ∷ without_last_zeros others))
    by true rest = All-nil P
    by false rest = All-cons P d (without_last_zeros others) (All-head P d others all) rest

pub All-shown : (P : ℕ → Type 0) (digits : List ℕ) → P 48 → All P digits → All P (one_at_least (without_last_zeros digits))
All-shown P digits zero all = by (without_last_zeros digits) (All-without_last_zeros P digits all)
  where
    by : (kept : List ℕ) → All P kept → All P (one_at_least kept)
    by [] kept = All-cons P 48 [] zero (All-nil P)
    by (d ∷ kept) all = all
