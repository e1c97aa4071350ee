-- The pairs of brackets at the end of a word.
use Rattle.std.proofs.Common.{replicate, codes, ◌-◌, ◌/◌, add-one, ◌≡◌, ◌≢◌, ◌⊎◌, inl, inr, ℕ, zero, suc, ◌+◌, ◌*◌, Bool, true, false}
use Rattle.std.proofs.Common.{cond, List, [], ◌∷◌, ◌++◌, length, refl, sym, ap, ◌∙◌, append_assoc, arith, ◌==◌, ◌&&◌}
use Rattle.std.specs.List.{concat}
use Rattle.std.proofs.lemmas.List.{length-append}
use Rattle.std.proofs.lemmas.Bool.{both_ways, eqb-true}
use Rattle.hprof_naming.specs.MeantLabel.{are_pairs, before_pairs, count_of_pairs}

-- that many pairs
abbrev pub bracket_pairs : ℕ → List ℕ
bracket_pairs count = concat (replicate count (codes "[]"))

pub length-bracket_pairs : (count : ℕ) → length (bracket_pairs count) ≡ 2 * count
length-bracket_pairs zero = refl
length-bracket_pairs (suc count) = omega (arith, length-bracket_pairs count)

are_pairs-bracket_pairs : (count : ℕ) → are_pairs (bracket_pairs count) ≡ true
are_pairs-bracket_pairs zero = refl
are_pairs-bracket_pairs (suc count) = are_pairs-bracket_pairs count

-- a text that ends in no pair
abbrev pub EndsInNoPair : List ℕ → Type 0
EndsInNoPair text = (front : List ℕ) → text ≢ front ++ 91 ∷ 93 ∷ []

both : (a b c : Bool) → (a && b && c) ≡ true → (a ≡ true) × (b ≡ true) × (c ≡ true)
both true true c e = (refl, refl, e)
both true false c e = absurd (both_ways false refl e)
both false b c e = absurd (both_ways false refl e)

-- only pairs, if there are more in front of some
only_pairs : (text : List ℕ) (count : ℕ) → are_pairs (text ++ bracket_pairs count) ≡ true
    → (text ≡ []) ⊎ ((front : List ℕ) × (text ≡ front ++ 91 ∷ 93 ∷ []))
only_pairs [] count e = inl refl
only_pairs (byte ∷ []) zero e = absurd (both_ways false refl e)
only_pairs (byte ∷ []) (suc count) e =
    let all = both (byte == 91) (91 == 93) (are_pairs (93 ∷ bracket_pairs count)) e in absurd (both_ways false refl all.1)
only_pairs (one ∷ other ∷ text) count e =
    let all = both (one == 91) (other == 93) (are_pairs (text ++ bracket_pairs count)) e in
    let is_one : one ≡ 91 = eqb-true one 91 all.0 in
    let is_other : other ≡ 93 = eqb-true other 93 all.1 in
    elim (only_pairs text count all.2) [
      | inl none ↦ inr ([], cc)
      | inr some ↦ let same : text ≡ some.0 ++ 91 ∷ 93 ∷ [] = some.1 in inr (one ∷ other ∷ some.0, cc)
    ]

-- the bytes before pairs, if they end in none themselves
pub before_pairs-append : (text : List ℕ) (count : ℕ) → EndsInNoPair text → before_pairs (text ++ bracket_pairs count) ≡ text
before_pairs-append [] zero none = refl
before_pairs-append [] (suc count) none =
    ap (λ (b : Bool). cond b [] (91 ∷ before_pairs (93 ∷ bracket_pairs count))) (are_pairs-bracket_pairs (suc count))
before_pairs-append (byte ∷ text) count none =
    by_test (are_pairs (byte ∷ text ++ bracket_pairs count)) refl
    (before_pairs-append text count (λ front same. none (byte ∷ front) (ap (λ (l : List ℕ). byte ∷ l) same))) where
      by_test : (b : Bool) → are_pairs (byte ∷ text ++ bracket_pairs count) ≡ b → before_pairs (text ++ bracket_pairs count) ≡ text
          → cond b [] (byte ∷ before_pairs (text ++ bracket_pairs count)) ≡ byte ∷ text
      by_test true e later = elim (only_pairs (byte ∷ text) count e) [
        | inl empty ↦ cc
        | inr some ↦ absurd (none some.0 some.1)
      ]
      by_test false e later = ap (λ (l : List ℕ). byte ∷ l) later

-- what is left once no pair is, and the number of those that were dropped
pub all_dropped : (word text : List ℕ) (count : ℕ) → word ≡ text ++ bracket_pairs count → EndsInNoPair text
    → (text ≡ before_pairs word) × (count ≡ count_of_pairs word)
all_dropped word text count is none =
    let before : before_pairs word ≡ text = rw is (before_pairs-append text count none) in
    let long : length word ≡ length text + 2 * count =
    rw is (omega (arith, length-append text (bracket_pairs count), length-bracket_pairs count)) in
    (sym before, rw before (rw long (omega arith)))

-- one more is dropped
pub one_dropped : (word text front : List ℕ) (count : ℕ) → word ≡ text ++ bracket_pairs count → text ≡ front ++ 91 ∷ 93 ∷ []
    → (word ≡ front ++ bracket_pairs (count + 1)) × (length word ≡ length front + 2 * (count + 1))
one_dropped word text front count is then =
    let whole : word ≡ front ++ bracket_pairs (suc count) =
    is ∙ ap (λ (l : List ℕ). l ++ bracket_pairs count) then ∙ append_assoc front (91 ∷ 93 ∷ []) (bracket_pairs count) in
    let more : word ≡ front ++ bracket_pairs (count + 1) = rw add-one whole in
    (more, rw more (omega (arith, length-append front (bracket_pairs (count + 1)), length-bracket_pairs (count + 1))))

-- ---- what is before the pairs, and how many there are

only_these : (bytes : List ℕ) → are_pairs bytes ≡ true → bytes ≡ bracket_pairs (length bytes / 2)
only_these [] are = refl
only_these (byte ∷ []) are = absurd (both_ways false refl are)
only_these (one ∷ other ∷ bytes) are =
    let all = both (one == 91) (other == 93) (are_pairs bytes) are in
    let first : one ≡ 91 = eqb-true one 91 all.0 in
    let second : other ≡ 93 = eqb-true other 93 all.1 in
    let rest : bytes ≡ bracket_pairs (length bytes / 2) = only_these bytes all.2 in
    let half : length (one ∷ other ∷ bytes) / 2 ≡ suc (length bytes / 2) = omega arith in
    let whole : one ∷ other ∷ bytes ≡ bracket_pairs (suc (length bytes / 2)) = cc in
    rw half whole

-- the word is these
pub whole_word : (word : List ℕ) → word ≡ before_pairs word ++ bracket_pairs (count_of_pairs word)
whole_word [] = refl
whole_word (byte ∷ bytes) = by_test (are_pairs (byte ∷ bytes)) refl (whole_word bytes) where
  by_test : (b : Bool) → are_pairs (byte ∷ bytes) ≡ b → bytes ≡ before_pairs bytes ++ bracket_pairs (count_of_pairs bytes)
      → byte ∷ bytes ≡ cond b [] (byte ∷ before_pairs bytes)
      ++ bracket_pairs ((length (byte ∷ bytes) - length (cond b [] (byte ∷ before_pairs bytes))) / 2)
  by_test true e later = let none : length (byte ∷ bytes) - 0 ≡ length (byte ∷ bytes) = omega arith in rw none (only_these (byte ∷ bytes) e)
  by_test false e later =
      let count : (length (byte ∷ bytes) - length (byte ∷ before_pairs bytes)) / 2 ≡ count_of_pairs bytes = omega arith in
      rw count (ap (λ (l : List ℕ). byte ∷ l) later)

-- and what is before the pairs ends in none
pub before_pairs-none : (word : List ℕ) → EndsInNoPair (before_pairs word)
before_pairs-none [] front same = absurd (omega (arith, ap length same, length-append front (91 ∷ 93 ∷ [])))
before_pairs-none (byte ∷ bytes) front same = by_test (are_pairs (byte ∷ bytes)) refl front same (before_pairs-none bytes) where
  by_test : (b : Bool) → are_pairs (byte ∷ bytes) ≡ b → (ahead : List ℕ) → cond b [] (byte ∷ before_pairs bytes) ≡ ahead ++ 91 ∷ 93 ∷ []
      → EndsInNoPair (before_pairs bytes) → ⊥
  by_test true e ahead is later = absurd (omega (arith, ap length is, length-append ahead (91 ∷ 93 ∷ [])))
  by_test false e [] is later =
      let first : byte ≡ 91 = cc in
      let before : before_pairs bytes ≡ 93 ∷ [] = cc in
      let rest : bytes ≡ 93 ∷ bracket_pairs (count_of_pairs bytes) =
      whole_word bytes ∙ ap (λ (l : List ℕ). l ++ bracket_pairs (count_of_pairs bytes)) before in
      let whole : byte ∷ bytes ≡ 91 ∷ 93 ∷ bracket_pairs (count_of_pairs bytes) = cc in
      both_ways _ e (ap are_pairs whole ∙ are_pairs-bracket_pairs (suc (count_of_pairs bytes)))
  by_test false e (f ∷ fs) is later = let rest : before_pairs bytes ≡ fs ++ 91 ∷ 93 ∷ [] = cc in later fs rest
