-- What is kept of a line asks what the line asks.
use Rattle.std.proofs.Common.{◌≡◌, ◌≢◌, ◌⊎◌, ℕ, ◌<◌, ◌≤◌, List, [], ◌∷◌, ◌++◌, length, take, refl, sym, ap, subst, ◌∙◌, inl, inr, arith}
use Rattle.std.proofs.Common.{Bool, true, false, ltb}
use Rattle.std.proofs.lemmas.List.{append_cancel_right, length-append, length-take, take-append-le, take_all}
use Rattle.std.proofs.lemmas.Bool.{ltb-true, ltb-false}
use Rattle.hprof_questions.specs.declared.question.Question.{Question}
use Rattle.hprof_questions.specs.declared.question.Question.TheVariants as questions
use Rattle.hprof_questions.specs.Asked.{Asks}
use Rattle.hprof_questions.specs.Lines.{IsBeforeFeed}

le-or-lt : (n m : ℕ) → (n ≤ m) ⊎ (m < n)
le-or-lt n m = go (ltb m n) refl where
  go : (test : Bool) → ltb m n ≡ test → (n ≤ m) ⊎ (m < n)
  go true e = inr (ltb-true m n e)
  go false e = inl (ltb-false m n e)

-- ---- bytes that are kept

module _ (most : ℕ) (kept rest : List ℕ) (byte : ℕ) (is : kept ≡ take most rest) where
  pub kept_more : length kept < most → kept ++ byte ∷ [] ≡ take most (rest ++ byte ∷ [])
  kept_more room =
      let few : length rest < most = omega (arith, ap length is, length-take most rest) in
      let all : kept ≡ rest = is ∙ take_all most rest (omega (arith, few)) in
      ap (λ (l : List ℕ). l ++ byte ∷ []) all
      ∙ sym (take_all most (rest ++ byte ∷ []) (omega (arith, few, length-append rest (byte ∷ []))))

  pub kept_full : most ≤ length kept → kept ≡ take most (rest ++ byte ∷ [])
  kept_full full =
      let many : most ≤ length rest = omega (arith, full, ap length is, length-take most rest) in
      is ∙ sym (take-append-le most rest (byte ∷ []) many)

-- ---- what they ask

-- a line that is too long is not understood
asks_long : (line : List ℕ) (question : Question) → Asks line question → 4096 < length line → question ≡ questions.NotUnderstood
asks_long line question (inl short) long = absurd (omega (arith, short.0, long))
asks_long line question (inr is) long = is.1

-- what is kept of a line asks what the line asks
pub front_asks : (line kept : List ℕ) (question : Question) → kept ≡ take 4098 line → Asks kept question → Asks line question
front_asks line kept question is asks = elim (le-or-lt (length line) 4098) [
  | inl short ↦ subst (λ (l : List ℕ). Asks l question) (is ∙ take_all 4098 line short) asks
  | inr long ↦ inr (
    omega (arith, long),
    asks_long kept question asks (omega (arith, ap length is, length-take 4098 line, long)),
  )
]

-- how long a line is before a feed
long_line : (before line : List ℕ) → IsBeforeFeed before line → 4098 < length before → 4096 < length line
long_line before line (inl e) long = omega (arith, long, ap length e, length-append line (13 ∷ []))
long_line before line (inr e) long = omega (arith, long, ap length e.0)

-- a return was kept at the end
pub stripped_asks : (before line kept shown : List ℕ) (question : Question) → kept ≡ take 4098 before → kept ≡ shown ++ 13 ∷ []
    → IsBeforeFeed before line → Asks shown question → Asks line question
stripped_asks before line kept shown question is strip is_line asks = elim (le-or-lt (length before) 4098) [
  | inl short ↦ whole (sym (is ∙ take_all 4098 before short)) is_line
  | inr long ↦ inr (
    long_line before line is_line long,
    asks_long shown question asks
        (omega (arith, ap length is, length-take 4098 before, long, ap length strip, length-append shown (13 ∷ []))),
  )
] where
  whole : before ≡ kept → IsBeforeFeed before line → Asks line question
  whole same (inl e) =
      subst (λ (l : List ℕ). Asks l question) (append_cancel_right shown line (13 ∷ []) (sym strip ∙ sym same ∙ e)) asks
  whole same (inr e) = absurd (e.1 shown (sym e.0 ∙ same ∙ strip))

-- none was
pub bare_asks : (before line kept : List ℕ) (question : Question) → kept ≡ take 4098 before
    → ((front : List ℕ) → kept ≢ front ++ 13 ∷ []) → IsBeforeFeed before line → Asks kept question → Asks line question
bare_asks before line kept question is none is_line asks = elim (le-or-lt (length before) 4098) [
  | inl short ↦ whole (sym (is ∙ take_all 4098 before short)) is_line
  | inr long ↦ inr (
    long_line before line is_line long,
    asks_long kept question asks (omega (arith, ap length is, length-take 4098 before, long)),
  )
] where
  whole : before ≡ kept → IsBeforeFeed before line → Asks line question
  whole same (inl e) = absurd (none line (sym same ∙ e))
  whole same (inr e) = subst (λ (l : List ℕ). Asks l question) (sym same ∙ e.0) asks
