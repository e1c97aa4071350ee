-- Lines that are taken, one after the other.
use Rattle.std.proofs.Common.{◌≡◌, ◌≢◌, ℕ, List, [], ◌∷◌, ◌++◌, take, refl, subst}
use Rattle.hprof_questions.specs.declared.question.Question.{Question}
use Rattle.hprof_questions.specs.declared.question.Question.TheVariants as questions
use Rattle.hprof_questions.specs.Asked.{Asks, NoneQuits, Quits}
use Rattle.hprof_questions.specs.Dialogue.{AreLinesToQuit, AreOpenLines, TakesLines}
use Rattle.hprof_questions.specs.Lines.{AreFirstLines, IsBeforeFeed}
use Rattle.hprof_questions.specs.Same.{IsSame}
use Rattle.hprof_questions.proofs.LineLemmas.{all_more, first_extended, first_more, line_before}
use Rattle.hprof_questions.proofs.OneQuestion.{asks_once}

-- another question does not end the dialogue
pub no_quit : (line : List ℕ) (question : Question) → Asks line question → question ≢ questions.Quit → Quits line → ⊥
no_quit line question asks other quits = by question other (asks_once line question questions.Quit asks quits) where
  by : (one : Question) → one ≢ questions.Quit → IsSame one questions.Quit → ⊥
  by questions.Quit other same = other refl
  by questions.Nothing other same = absurd cc
  by questions.Help other same = absurd cc
  by (questions.Report report) other same = absurd cc
  by (questions.Misnamed fault) other same = absurd cc
  by questions.NotUnderstood other same = absurd cc

-- none of one line more does
pub none_more : (lines : List (List ℕ)) (line : List ℕ) → NoneQuits lines → (Quits line → ⊥) → NoneQuits (lines ++ line ∷ [])
none_more lines line none no_quit = all_more (λ l. Quits l → ⊥) lines line none no_quit

-- before the first byte
abbrev pub taken_none : TakesLines [] []
taken_none = record { lines = []; rest = []; first = refl; none = tt; no_feed = tt; kept_is = refl }

module _ (bytes kept : List ℕ) (taken : TakesLines bytes kept) where
  -- a byte more of a line
  abbrev pub taken_byte : (byte : ℕ) (next : List ℕ) → byte ≢ 10
      → ((rest : List ℕ) → kept ≡ take 4098 rest → next ≡ take 4098 (rest ++ byte ∷ [])) → TakesLines (bytes ++ byte ∷ []) next
  taken_byte byte next other keeps = record {
    lines = taken.lines;
    rest = taken.rest ++ byte ∷ [];
    first = first_extended bytes taken.lines taken.rest (byte ∷ []) taken.first;
    none = taken.none;
    no_feed = all_more (λ b. b ≢ 10) taken.rest byte taken.no_feed other;
    kept_is = keeps taken.rest taken.kept_is;
  }

  pub taken_open : AreOpenLines bytes taken.lines
  taken_open = ((taken.rest, taken.first, taken.no_feed), taken.none)

  -- a line ended
  module _ (question : Question)
      (asks : (before line : List ℕ) → kept ≡ take 4098 before → IsBeforeFeed before line → Asks line question) where
    abbrev pub ended : List ℕ
    ended = (line_before taken.rest).0

    pub ended_asks : Asks ended question
    ended_asks = asks taken.rest ended taken.kept_is (line_before taken.rest).1

    pub first_line : (more : List ℕ) → AreFirstLines (bytes ++ 10 ∷ more) (taken.lines ++ ended ∷ []) more
    first_line more = first_more bytes taken.lines taken.rest ended more taken.first taken.no_feed (line_before taken.rest).1

    -- which does not end the dialogue
    pub none_ended : question ≢ questions.Quit → NoneQuits (taken.lines ++ ended ∷ [])
    none_ended other = none_more taken.lines ended taken.none (no_quit ended question ended_asks other)

    abbrev pub taken_line : question ≢ questions.Quit → (next : List ℕ) → next ≡ [] → TakesLines (bytes ++ 10 ∷ []) next
    taken_line other next empty = record {
      lines = taken.lines ++ ended ∷ [];
      rest = [];
      first = first_line [];
      none = none_ended other;
      no_feed = tt;
      kept_is = empty;
    }

    -- or ends it
    pub ended_quits : question ≡ questions.Quit → Quits ended
    ended_quits quit = subst (Asks ended) quit ended_asks

    pub taken_quit : (more : List ℕ) → question ≡ questions.Quit → AreLinesToQuit (bytes ++ 10 ∷ more) (taken.lines ++ ended ∷ [])
    taken_quit more quit = record {
      before = taken.lines;
      last = ended;
      is = refl;
      none = taken.none;
      quits = ended_quits quit;
      rest = more;
      first = first_line more;
    }

    pub some_quit : (more : List ℕ) → question ≡ questions.Quit → (lines : List (List ℕ)) × AreLinesToQuit (bytes ++ 10 ∷ more) lines
    some_quit more quit = (taken.lines ++ ended ∷ [], taken_quit more quit)
