-- Bytes have one list of lines.
use Rattle.std.proofs.Common.{◌≡◌, ◌≢◌, ℕ, List, [], ◌∷◌, ◌++◌, length, refl, sym, ap, subst, ◌∙◌, inl, inr, append-nil, append_assoc}
use Rattle.std.proofs.Common.{arith}
use Rattle.std.proofs.lemmas.Bool.Decides.{eqb_tells}
use Rattle.std.proofs.lemmas.List.{append_cancel_right}
use Rattle.hprof_questions.specs.Lines.{AreFirstLines, AreLines, HasNoFeed, IsBeforeFeed, IsFirstLine, IsLastLine}
use Rattle.hprof_questions.proofs.LineLemmas.{all_more, first_extended, first_then, line_before}

-- one line stands before a feed
pub before_once : (bytes one other : List ℕ) → IsBeforeFeed bytes one → IsBeforeFeed bytes other → one ≡ other
before_once bytes one other (inl e) (inl f) = append_cancel_right one other (13 ∷ []) (sym e ∙ f)
before_once bytes one other (inl e) (inr f) = absurd (f.1 one (sym f.0 ∙ e))
before_once bytes one other (inr e) (inl f) = absurd (e.1 other (sym e.0 ∙ f))
before_once bytes one other (inr e) (inr f) = sym e.0 ∙ f.0

-- bytes without a feed have none
no_feed_there : (before rest : List ℕ) → HasNoFeed (before ++ 10 ∷ rest) → ⊥
no_feed_there [] rest none = none.0 refl
no_feed_there (b ∷ before) rest none = no_feed_there before rest none.1

-- the first feed is at one place
feed_once : (one other rest rest_too : List ℕ) → HasNoFeed one → HasNoFeed other → one ++ 10 ∷ rest ≡ other ++ 10 ∷ rest_too
    → (one ≡ other) × (rest ≡ rest_too)
feed_once [] [] rest rest_too none none_too e = let same : rest ≡ rest_too = cc in (refl, same)
feed_once [] (b ∷ other) rest rest_too none none_too e = let same : b ≡ 10 = cc in absurd (none_too.0 same)
feed_once (a ∷ one) [] rest rest_too none none_too e = let same : a ≡ 10 = cc in absurd (none.0 same)
feed_once (a ∷ one) (b ∷ other) rest rest_too none none_too e =
    let first : a ≡ b = cc in
    let later : one ++ 10 ∷ rest ≡ other ++ 10 ∷ rest_too = cc in
    let it = feed_once one other rest rest_too none.1 none_too.1 later in
    ((λ i. first i ∷ it.0 i), it.1)

first_once : (bytes line line_too rest rest_too : List ℕ) → IsFirstLine bytes line rest → IsFirstLine bytes line_too rest_too
    → (line ≡ line_too) × (rest ≡ rest_too)
first_once bytes line line_too rest rest_too is is_too =
    let it = feed_once is.before is_too.before rest rest_too is.no_feed is_too.no_feed (sym is.is ∙ is_too.is) in
    (before_once is.before line line_too is.is_line (subst (λ (l : List ℕ). IsBeforeFeed l line_too) (sym it.0) is_too.is_line), it.1)

-- the lines that end are one list, and one rest is behind them
pub ended_once : (bytes : List ℕ) (one other : List (List ℕ)) (rest rest_too : List ℕ) → AreFirstLines bytes one rest → HasNoFeed rest
    → AreFirstLines bytes other rest_too → HasNoFeed rest_too → (one ≡ other) × (rest ≡ rest_too)
ended_once bytes [] [] rest rest_too are none are_too none_too = (refl, sym are ∙ are_too)
ended_once bytes [] (line ∷ lines) rest rest_too are none are_too none_too =
    absurd (no_feed_there are_too.1.before are_too.0 (subst HasNoFeed (sym are ∙ are_too.1.is) none))
ended_once bytes (line ∷ lines) [] rest rest_too are none are_too none_too =
    absurd (no_feed_there are.1.before are.0 (subst HasNoFeed (sym are_too ∙ are.1.is) none_too))
ended_once bytes (line ∷ lines) (line_too ∷ lines_too) rest rest_too are none are_too none_too =
    let first = first_once bytes line line_too are.0 are_too.0 are.1 are_too.1 in
    let later = ended_once are.0 lines lines_too rest rest_too are.2 none
    (subst (λ (l : List ℕ). AreFirstLines l lines_too rest_too) (sym first.1) are_too.2) none_too in
    ((λ i. first.0 i ∷ later.0 i), later.1)

not_last : (last : List ℕ) → [] ≡ last → IsLastLine last → ⊥
not_last last e is = absurd (omega (arith, is.0, ap length e))

-- bytes have one list of lines
pub lines_once : (bytes : List ℕ) (one other : List (List ℕ)) → AreLines bytes one → AreLines bytes other → one ≡ other
lines_once bytes one other (inl are) (inl are_too) = (ended_once bytes one other [] [] are tt are_too tt).0
lines_once bytes one other (inl are) (inr (before, last, is, are_too, is_last)) =
    absurd (not_last last (ended_once bytes one before [] last are tt are_too is_last.1).1 is_last)
lines_once bytes one other (inr (before, last, is, are, is_last)) (inl are_too) =
    absurd (not_last last (ended_once bytes other before [] last are_too tt are is_last.1).1 is_last)
lines_once bytes one other (inr (before, last, is, are, is_last)) (inr (before_too, last_too, is_too, are_too, is_last_too)) =
    let it = ended_once bytes before before_too last last_too are is_last.1 are_too is_last_too.1 in
    is ∙ (λ i. it.0 i ++ it.1 i ∷ []) ∙ sym is_too

-- lines in front of a rest, and then those of the rest
pub lines_behind : (bytes : List ℕ) (lines : List (List ℕ)) (rest : List ℕ) (others : List (List ℕ)) → AreFirstLines bytes lines rest
    → AreLines rest others → AreLines bytes (lines ++ others)
lines_behind bytes lines rest others first (inl are) = inl (first_then bytes lines rest others [] first are)
lines_behind bytes lines rest others first (inr (before, last, is, are, is_last)) = inr (
  lines ++ before,
  last,
  ap (λ (l : List (List ℕ)). lines ++ l) is ∙ sym (append_assoc lines before (last ∷ [])),
  first_then bytes lines rest before last first are,
  is_last,
)

-- lines that end, and then those of more bytes
pub lines_then : (bytes more : List ℕ) (lines others : List (List ℕ)) → AreFirstLines bytes lines [] → AreLines more others
    → AreLines (bytes ++ more) (lines ++ others)
lines_then bytes more lines others first are =
    lines_behind (bytes ++ more) lines more others (first_extended bytes lines [] more first) are

-- ---- there is one

last_lines : (bytes : List ℕ) → HasNoFeed bytes → (lines : List (List ℕ)) × AreLines bytes lines
last_lines [] none = ([], inl refl)
last_lines (byte ∷ bytes) none = ((byte ∷ bytes) ∷ [], inr ([], byte ∷ bytes, refl, refl, (omega arith, none)))

-- the lines of some bytes, of which the first are no feed
lines_from : (before rest : List ℕ) → HasNoFeed before → (lines : List (List ℕ)) × AreLines (before ++ rest) lines
lines_from before [] none =
    subst (λ (bytes : List ℕ). (lines : List (List ℕ)) × AreLines bytes lines) (sym (append-nil before)) (last_lines before none)
lines_from before (byte ∷ rest) none = elim (eqb_tells byte 10) [
  | inl feed ↦
      let line = line_before before in
      let others = lines_from [] rest tt in
      let is : before ++ byte ∷ rest ≡ before ++ 10 ∷ rest = ap (λ (b : ℕ). before ++ b ∷ rest) feed.1 in (
        line.0 ∷ others.0,
        lines_behind (before ++ byte ∷ rest) (line.0 ∷ []) rest others.0
            (rest, record { before = before; no_feed = none; is_line = line.1; is = is }, refl) others.1,
      )
  | inr other ↦ subst (λ (bytes : List ℕ). (lines : List (List ℕ)) × AreLines bytes lines) (append_assoc before (byte ∷ []) rest)
      (lines_from (before ++ byte ∷ []) rest (all_more (λ b. b ≢ 10) before byte none other.1))
]

pub some_lines : (bytes : List ℕ) → (lines : List (List ℕ)) × AreLines bytes lines
some_lines bytes = lines_from [] bytes tt
