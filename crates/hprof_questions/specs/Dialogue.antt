-- What taking lines and answering them comes to.
--   IsAnswer: this text is the answer to that question;  bytes: what came of the questions
--   start, now: what the writer held before, and holds
use Rattle.std.specs.Prelude.{◌≡◌, ◌⊎◌, ℕ, ◌≤◌, ◌-◌, ◌^◌, List, [], ◌∷◌, ◌++◌, length, take, Option, Result, Ok, Err, ⊤}
use Rattle.std.specs.Io.KnownBytes.{Appends, Consumes, IsAtEnd}
use Rattle.hprof_devices.specs.declared.health.Health.{Health}
use Rattle.hprof_devices.specs.declared.health.Health.TheVariants as healths
use Rattle.hprof_devices.specs.Device.{health_after}
use Rattle.hprof_rows.specs.HeapValue.{HeapValue}
use Rattle.hprof_questions.specs.declared.dialogue.Course.{Course}
use Rattle.hprof_questions.specs.declared.dialogue.Course.TheVariants as courses
use Rattle.hprof_questions.specs.declared.question.Question.{Question}
use Rattle.hprof_questions.specs.declared.dialogue_fault.DialogueFault.{DialogueFault}
use Rattle.hprof_questions.specs.declared.dialogue_fault.DialogueFault.TheVariants as stops
use Rattle.hprof_questions.specs.Answering.{AreAnswers, IsLineAnswer}
use Rattle.hprof_questions.specs.Asked.{NoneQuits, Quits}
use Rattle.hprof_questions.specs.Lines.{AreEndedLines, AreFirstLines, AreLines, AreTaken, HasNoFeed}

-- these are the lines that end with a line feed, and none of them ends the dialogue
abbrev pub AreOpenLines : List ℕ → List (List ℕ) → Type 0
AreOpenLines bytes lines = AreEndedLines bytes lines × NoneQuits lines

-- these are the first of the lines that end with a line feed; the last of them ends the dialogue, and none before it does
pub record AreLinesToQuit (bytes : List ℕ) (lines : List (List ℕ)) : Type 0 where
  pub before : List (List ℕ)
  pub last : List ℕ
  pub is : lines ≡ before ++ last ∷ []
  pub none : NoneQuits before
  pub quits : Quits last
  pub rest : List ℕ
  pub first : AreFirstLines bytes lines rest

-- the lines that ended are taken, none of them ends the dialogue, and this is kept of the bytes behind them: the first 4,098 bytes
pub record TakesLines (bytes kept : List ℕ) : Type 0 where
  pub lines : List (List ℕ)
  pub rest : List ℕ
  pub first : AreFirstLines bytes lines rest
  pub none : NoneQuits lines
  pub no_feed : HasNoFeed rest
  pub kept_is : kept ≡ take 4098 rest

-- a piece of the bytes was gone over: more lines are taken, or one ended the dialogue
abbrev pub TakesOn : (bytes kept : List ℕ) → Result Course DialogueFault → Type 0
TakesOn bytes kept (Ok courses.Open) = TakesLines bytes kept
TakesOn bytes kept (Ok courses.Ended) = (lines : List (List ℕ)) × AreLinesToQuit bytes lines
TakesOn bytes kept (Err stop) = ⊤

-- ---- what was written of the answers

module _ (IsAnswer : Question → List ℕ → Type 0) where
  -- lines were taken of the bytes, and the answers to them were written
  pub record AnswersLines (IsTaken : List ℕ → List (List ℕ) → Type 0) (bytes : List ℕ) (start now : Option (List ℕ)) : Type 0 where
    pub lines : List (List ℕ)
    pub taken : IsTaken bytes lines
    pub text : List ℕ
    pub are_answers : AreAnswers IsAnswer lines text
    pub appended : Appends start now text

  -- lines of which none ends the dialogue were taken of the bytes, and the answers to them were written, to the last of them some, from the
  -- front
  --   IsEnd: no more bytes come
  pub record AnswersFront (IsEnd : Type 0) (bytes : List ℕ) (start now : Option (List ℕ)) : Type 0 where
    pub lines : List (List ℕ)
    pub last : List ℕ
    pub taken : AreTaken IsEnd bytes (lines ++ last ∷ [])
    pub none : NoneQuits (lines ++ last ∷ [])
    pub text : List ℕ
    pub are_answers : AreAnswers IsAnswer lines text
    pub answer : List ℕ
    pub is_answer : IsLineAnswer IsAnswer last answer
    pub count : ℕ
    pub within : count ≤ length answer
    pub appended : Appends start now (text ++ take count answer)

  -- the answers to all lines that were taken were written, or to the last of them some
  abbrev pub AnswersSome : (IsEnd : Type 0) (bytes : List ℕ) (start now : Option (List ℕ)) → Type 0
  AnswersSome IsEnd bytes start now = AnswersLines (AreTaken IsEnd) bytes start now ⊎ AnswersFront IsEnd bytes start now

  -- the answers to all lines that were taken but the last were written, and nothing of the answer to the last
  abbrev pub AnswersBefore : (IsEnd : Type 0) (bytes : List ℕ) (start now : Option (List ℕ)) → Type 0
  AnswersBefore IsEnd bytes start now = (front : AnswersFront IsEnd bytes start now) × (front.count ≡ 0)

  -- what was written as the answering of lines stopped: where that which they are about was lost, nothing of the last answer
  abbrev pub AnswersStopped : (IsEnd : Type 0) (bytes : List ℕ) (start now : Option (List ℕ)) → DialogueFault → Type 0
  AnswersStopped IsEnd bytes start now (stops.Lost loss) = AnswersBefore IsEnd bytes start now
  AnswersStopped IsEnd bytes start now other = AnswersSome IsEnd bytes start now

  -- the lines that ended are answered, and this is kept of the bytes behind them
  pub record Heard (bytes : List ℕ) (start now : Option (List ℕ)) (kept : List ℕ) : Type 0 where
    pub taken : TakesLines bytes kept
    pub text : List ℕ
    pub are_answers : AreAnswers IsAnswer taken.lines text
    pub appended : Appends start now text

  -- a piece of the bytes was gone over, behind which more may come, or a line in it ended the dialogue
  abbrev pub GoesOver : (bytes : List ℕ) (start now : Option (List ℕ)) (kept : List ℕ) → Result Course DialogueFault → Type 0
  GoesOver bytes start now kept (Ok courses.Open) = Heard bytes start now kept
  GoesOver bytes start now kept (Ok courses.Ended) = AnswersLines AreLinesToQuit bytes start now
  GoesOver bytes start now kept (Err stop) = AnswersStopped ⊥ bytes start now stop

  -- there are no more bytes
  abbrev pub Finishes : {A : Type 0} → (bytes : List ℕ) (start now : Option (List ℕ)) → Result A DialogueFault → Type 0
  Finishes bytes start now (Ok done) = AnswersLines AreLines bytes start now
  Finishes bytes start now (Err stop) = AnswersStopped ⊤ bytes start now stop

  -- what came of the questions, and what was written of the answers
  --   left, asking, pulls: what the source of questions has left to tell, how it is doing, how often it was pulled
  --   written, well: what the writer holds, where it tells, and how it is doing
  module _ {Q W : Type 0} (left : Q → Option (List ℕ)) (asking : Q → Health) (pulls : Q → ℕ) (written : W → Option (List ℕ))
      (well : W → Health) (was is : Q) (before after : W) where
    -- so far these bytes came, and that holds of them
    pub record Came (Holds : (bytes : List ℕ) (start now : Option (List ℕ)) → Type 0) : Type 0 where
      pub bytes : List ℕ
      pub consumed : Consumes (left was) (left is) bytes
      pub holds : Holds bytes (written before) (written after)

    -- no more is to be answered: all lines of the questions are answered, of which no more come, or those up to one that ends the dialogue
    abbrev pub IsOver : Type 0
    IsOver = (Came (AnswersLines AreLines) × IsAtEnd (left is)) ⊎ Came (AnswersLines AreLinesToQuit)

    -- what was written of the answers as a dialogue ended
    abbrev pub AnswersDialogue : {A : Type 0} → Result A DialogueFault → Type 0
    -- no more is to be answered
    AnswersDialogue (Ok done) = IsOver
    -- the questions could not be read on, or were read more often than can be counted: the lines that had ended are answered, and none of
    -- them ends the dialogue
    AnswersDialogue (Err (stops.Questions fault)) = Came (AnswersLines AreOpenLines)
    -- the writer failed or stuck
    AnswersDialogue (Err (stops.Write fault)) = Came (AnswersSome (IsAtEnd (left is)))
    -- memory was wanted
    AnswersDialogue (Err stops.OutOfMemory) = Came (AnswersSome (IsAtEnd (left is)))
    -- that which the answers are about was lost: the lines before the last one that was taken are answered
    AnswersDialogue (Err (stops.Lost loss)) = Came (AnswersBefore (IsAtEnd (left is)))

  -- the leave to read on: all lines that ended in what came are answered, none of them ends the dialogue, and all answers were flushed
  --   start: what the writer held before;  flushed: nothing of what was written is held back
  --   may_read: the source may be read on while that is the writer
  module _ {Q W : Type 0} (left : Q → Option (List ℕ)) (written : W → Option (List ℕ)) (flushed : W → Type 0)
      (may_read : Q → W → Type 0) (was : Q) (start : Option (List ℕ)) where
    abbrev pub LetsReadOn : Type 0
    LetsReadOn = (bytes : List ℕ) (is : Q) (after : W) → Consumes (left was) (left is) bytes
        → AnswersLines AreOpenLines bytes start (written after) → flushed after → may_read is after

-- ---- whatever heap the answers are about

-- how a dialogue ended
--   left, asking, pulls: what the source of questions has left to tell, how it is doing, how often it was pulled
--   well: how the writer is doing
module _ {Q W : Type 0} (left : Q → Option (List ℕ)) (asking : Q → Health) (pulls : Q → ℕ) (well : W → Health) (was is : Q)
    (after : W) where
  -- behind these bytes of the questions
  abbrev pub EndsBehind : {A : Type 0} → List ℕ → Result A DialogueFault → Type 0
  -- no more bytes come, or a line ended the dialogue
  EndsBehind bytes (Ok done) = (IsAtEnd (left is) ⊎ ((lines : List (List ℕ)) × AreLinesToQuit bytes lines))
      × (asking is ≡ healths.Well) × (well after ≡ healths.Well)
  -- the questions could not be read on, or were read more often than can be counted, and no line had ended the dialogue
  EndsBehind bytes (Err (stops.Questions fault)) = ((lines : List (List ℕ)) × AreOpenLines bytes lines)
      × ((asking is ≡ healths.Failed) ⊎ (2 ^ 64 - 1 ≤ pulls is)) × (well after ≡ healths.Well)
  -- the writer failed or stuck
  EndsBehind bytes (Err (stops.Write fault)) = (asking is ≡ healths.Well) × (well after ≡ health_after fault)
  -- memory was wanted
  EndsBehind bytes (Err stops.OutOfMemory) = (asking is ≡ healths.Well) × (well after ≡ healths.Well)
  -- that which the answers are about was lost
  EndsBehind bytes (Err (stops.Lost loss)) = (asking is ≡ healths.Well) × (well after ≡ healths.Well)

  abbrev pub EndsDialogue : {A : Type 0} → Result A DialogueFault → Type 0
  EndsDialogue r = (bytes : List ℕ) × Consumes (left was) (left is) bytes × EndsBehind bytes r

-- the leave to read on: the same as that above, for answers that may be about any of some heaps
--   About: the answers may be about that heap;  IsAnswer: this text is the answer to that question about that heap
module _ (About : HeapValue → Type 0) (IsAnswer : HeapValue → Question → List ℕ → Type 0) {Q W : Type 0} (left : Q → Option (List ℕ))
    (written : W → Option (List ℕ)) (flushed : W → Type 0) (may_read : Q → W → Type 0) (was : Q) (start : Option (List ℕ)) where
  abbrev pub LetsReadOnAbout : Type 0
  LetsReadOnAbout = (bytes : List ℕ) (is : Q) (after : W) → Consumes (left was) (left is) bytes
      → (lines : List (List ℕ)) → AreOpenLines bytes lines
      → ((heap : HeapValue) → About heap → AnswersLines (IsAnswer heap) AreOpenLines bytes start (written after))
      → flushed after → may_read is after
