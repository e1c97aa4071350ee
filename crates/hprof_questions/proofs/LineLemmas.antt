-- Lines, taken one after the other.
use Rattle.std.proofs.Common.{◌≡◌, ◌≢◌, ℕ, List, [], ◌∷◌, ◌++◌, length, refl, sym, ap, subst, ◌∙◌, inl, inr, append_assoc, arith, Bool}
use Rattle.std.proofs.Common.{true, false, ◌==◌}
use Rattle.std.specs.List.{AllByRecursion}
use Rattle.std.proofs.lemmas.List.{length-append}
use Rattle.std.proofs.lemmas.Bool.{eqb-true, eqb-false}
use Rattle.hprof_questions.specs.Lines.{AreFirstLines, HasNoFeed, IsBeforeFeed}

-- what holds of all and of one more
pub all_more : {X : Type 0} (P : X → Type 0) (xs : List X) (x : X) → AllByRecursion P xs → P x → AllByRecursion P (xs ++ x ∷ [])
all_more P [] x all is = (is, tt)
all_more P (y ∷ ys) x all is = (all.0, all_more P ys x all.1 is)

-- ---- the line before a feed

not_empty : (front : List ℕ) (b : ℕ) → [] ≡ front ++ b ∷ [] → ⊥
not_empty front b e = absurd (omega (arith, ap length e, length-append front (b ∷ [])))

-- some line stands before a feed
pub line_before : (bytes : List ℕ) → (line : List ℕ) × IsBeforeFeed bytes line
line_before [] = ([], inr (refl, λ front e. not_empty front 13 e))
line_before (b ∷ []) = go (b == 13) refl where
  go : (test : Bool) → (b == 13) ≡ test → (line : List ℕ) × IsBeforeFeed (b ∷ []) line
  go true e = ([], inl (ap (λ (x : ℕ). x ∷ []) (eqb-true b 13 e)))
  go false e = (b ∷ [], inr (refl, λ front same. last_is front same)) where
    last_is : (front : List ℕ) → b ∷ [] ≡ front ++ 13 ∷ [] → ⊥
    last_is [] same = let is : b ≡ 13 = cc in eqb-false b 13 e is
    last_is (f ∷ fs) same = let rest : [] ≡ fs ++ 13 ∷ [] = cc in not_empty fs 13 rest
line_before (b ∷ c ∷ bytes) = let it = line_before (c ∷ bytes) in elim it.1 [
  | inl e ↦ (b ∷ it.0, inl (ap (λ (l : List ℕ). b ∷ l) e))
  | inr bare ↦ (b ∷ it.0, inr (ap (λ (l : List ℕ). b ∷ l) bare.0, λ front same. last_is it.0 bare.0 bare.1 front same))
] where
  last_is : (line : List ℕ) → c ∷ bytes ≡ line → ((front : List ℕ) → line ≢ front ++ 13 ∷ []) → (front : List ℕ)
      → b ∷ line ≡ front ++ 13 ∷ [] → ⊥
  last_is line is none [] same = let empty : line ≡ [] = cc in absurd (omega (arith, ap length is, ap length empty))
  last_is line is none (f ∷ fs) same = let rest : line ≡ fs ++ 13 ∷ [] = cc in none fs rest

-- ---- lines in front of a rest

pub first_none : (bytes : List ℕ) → AreFirstLines bytes [] bytes
first_none bytes = refl

-- more bytes come behind
pub first_extended : (bytes : List ℕ) (lines : List (List ℕ)) (rest more : List ℕ) → AreFirstLines bytes lines rest
    → AreFirstLines (bytes ++ more) lines (rest ++ more)
first_extended bytes [] rest more first = ap (λ (l : List ℕ). l ++ more) first
first_extended bytes (line ∷ lines) rest more first = (
  first.0 ++ more,
  record {
    before = first.1.before;
    no_feed = first.1.no_feed;
    is_line = first.1.is_line;
    is = ap (λ (l : List ℕ). l ++ more) first.1.is ∙ append_assoc first.1.before (10 ∷ first.0) more;
  },
  first_extended first.0 lines rest more first.2,
)

-- lines in front of a rest that begins with lines
pub first_then : (bytes : List ℕ) (lines : List (List ℕ)) (mid : List ℕ) (more : List (List ℕ)) (rest : List ℕ)
    → AreFirstLines bytes lines mid
    → AreFirstLines mid more rest → AreFirstLines bytes (lines ++ more) rest
first_then bytes [] mid more rest first then = subst (λ (l : List ℕ). AreFirstLines l more rest) (sym first) then
first_then bytes (line ∷ lines) mid more rest first then = (first.0, first.1, first_then first.0 lines mid more rest first.2 then)

-- one more line ends
pub first_more : (bytes : List ℕ) (lines : List (List ℕ)) (before line rest : List ℕ) → AreFirstLines bytes lines before → HasNoFeed before
    → IsBeforeFeed before line → AreFirstLines (bytes ++ 10 ∷ rest) (lines ++ line ∷ []) rest
first_more bytes lines before line rest first no_feed is_line =
    first_then (bytes ++ 10 ∷ rest) lines (before ++ 10 ∷ rest) (line ∷ []) rest (first_extended bytes lines before (10 ∷ rest) first)
    (rest, record { before = before; no_feed = no_feed; is_line = is_line; is = refl }, refl)
