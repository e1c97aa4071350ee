-- How a dialogue ends.
use Rattle.std.proofs.Common.{◌≡◌, ◌⊎◌, ℕ, List, [], ◌++◌, Option, Result, Ok, Err, sym, subst, inl, inr}
use Rattle.std.specs.Prelude.{IfErr, ⊤}
use Rattle.std.specs.Io.KnownBytes.{Consumes, IsAtEnd, Keeps}
use Rattle.std.proofs.KnownBytes.{Consumes-nil, Consumes-trans}
use Rattle.hprof_devices.specs.declared.health.Health.{Health}
use Rattle.hprof_devices.specs.declared.health.Health.TheVariants as healths
use Rattle.hprof_devices.specs.declared.health.ReadFault.{ReadFault}
use Rattle.hprof_engine.specs.declared.loss.Loss.{Loss}
use Rattle.hprof_rows.specs.HeapValue.{HeapValue}
use Rattle.hprof_questions.specs.declared.question.Question.{Question}
use Rattle.hprof_questions.specs.declared.dialogue_fault.DialogueFault.{DialogueFault}
use Rattle.hprof_questions.specs.declared.dialogue_fault.DialogueFault.TheVariants as stops
use Rattle.hprof_questions.specs.Answering.{IsOfWriter, LeavesWriter, TellsLoss}
use Rattle.hprof_questions.specs.Dialogue.{AnswersDialogue, AnswersLines, AnswersStopped, AreLinesToQuit, Came, EndsBehind}
use Rattle.hprof_questions.specs.Dialogue.{Finishes, Heard, LetsReadOnAbout, TakesLines}
use Rattle.hprof_questions.proofs.Hearing.{before_for, heard_hindered, heard_none, heard_open, heard_still, lines_still, quit_taken}
use Rattle.hprof_questions.proofs.Hearing.{some_for}
use Rattle.hprof_questions.proofs.Taking.{taken_none, taken_open}

-- ---- what was written, if the answers are about a heap

module _ (IsAnswer : Question → List ℕ → Type 0) {Q W : Type 0} (left : Q → Option (List ℕ)) (asking : Q → Health) (pulls : Q → ℕ)
    (written : W → Option (List ℕ)) (well : W → Health) (was : Q) (before : W) (is : Q) (bytes : List ℕ)
    (consumed : Consumes (left was) (left is) bytes) where
  abbrev Ends : {A : Type 0} → W → Result A DialogueFault → Type 0
  Ends after r = AnswersDialogue IsAnswer left asking pulls written well was is before after r

  came : (after : W) (Holds : (bytes : List ℕ) (start now : Option (List ℕ)) → Type 0) → Holds bytes (written before) (written after)
      → Came IsAnswer left asking pulls written well was is before after Holds
  came after Holds holds = record { bytes = bytes; consumed = consumed; holds = holds }

  -- it stopped behind these bytes
  --   IsEnd: no more come
  stopped : (IsEnd : Type 0) → (IsEnd → IsAtEnd (left is)) → (after : W) (stop : DialogueFault)
      → AnswersStopped IsAnswer IsEnd bytes (written before) (written after) stop → LeavesWriter {A = Unit {0}} (Err stop) (well after)
      → Ends {A = Unit {0}} after (Err stop)
  stopped IsEnd ends after (stops.Questions fault) some health = absurd health
  stopped IsEnd ends after (stops.Write fault) some health =
      came after _ (some_for IsAnswer IsEnd (IsAtEnd (left is)) ends bytes (written before) (written after) some)
  stopped IsEnd ends after stops.OutOfMemory some health =
      came after _ (some_for IsAnswer IsEnd (IsAtEnd (left is)) ends bytes (written before) (written after) some)
  stopped IsEnd ends after (stops.Lost loss) some health =
      came after _ (before_for IsAnswer IsEnd (IsAtEnd (left is)) ends bytes (written before) (written after) some)

  -- in the midst of them
  pub stopped_within : (after : W) (stop : DialogueFault)
      → AnswersStopped IsAnswer ⊥ bytes (written before) (written after) stop → LeavesWriter {A = Unit {0}} (Err stop) (well after)
      → Ends {A = Unit {0}} after (Err stop)
  stopped_within after stop some health = stopped ⊥ (λ none. absurd none) after stop some health

  -- nothing more comes
  pub finished : (after : W) (r : Result (Unit {0}) DialogueFault) → IsAtEnd (left is)
      → Finishes IsAnswer bytes (written before) (written after) r → LeavesWriter r (well after) → Ends after r
  finished after (Ok done) end all health = inl (came after _ all, end)
  finished after (Err stop) end some health = stopped ⊤ (λ _. end) after stop some health

  -- a line ended it; then all is passed on, or the writer failed
  pub quit : (then after : W) (r : Result (Unit {0}) DialogueFault)
      → AnswersLines IsAnswer AreLinesToQuit bytes (written before) (written then) → Keeps (written then) (written after)
      → IfErr r IsOfWriter → Ends after r
  quit then after r all keeps writes =
      by r (lines_still IsAnswer AreLinesToQuit bytes (written before) (written then) (written after) keeps all) writes where
        by : (r : Result (Unit {0}) DialogueFault) → AnswersLines IsAnswer AreLinesToQuit bytes (written before) (written after)
            → IfErr r IsOfWriter → Ends after r
        by (Ok done) all writes = inr (came after _ all)
        by (Err (stops.Write fault)) all writes =
            came after _ (inl (quit_taken IsAnswer (IsAtEnd (left is)) bytes (written before) (written after) all))
        by (Err (stops.Questions fault)) all writes = absurd writes
        by (Err (stops.Lost loss)) all writes = absurd writes
        by (Err stops.OutOfMemory) all writes = absurd writes

  module _ (mid after : W) (kept : List ℕ) (heard : Heard IsAnswer bytes (written before) (written mid) kept)
      (keeps : Keeps (written mid) (written after)) where
    -- memory was wanted before more was read, or the writer failed
    pub hindered : (stop : DialogueFault) → (stop ≡ stops.OutOfMemory) ⊎ IsOfWriter stop
        → LeavesWriter {A = Unit {0}} (Err stop) (well after) → Ends {A = Unit {0}} after (Err stop)
    hindered stop why health =
        stopped_within after stop
        (heard_hindered IsAnswer bytes (written before) (written mid) kept heard (written after) stop keeps why) health

    -- or no more could be read
    pub unread : (fault : ReadFault) → Ends {A = Unit {0}} after (Err (stops.Questions fault))
    unread fault = came after _ (heard_open IsAnswer bytes (written before) (written after) kept
        (heard_still IsAnswer bytes (written before) (written mid) kept heard (written after) keeps))

-- ---- whatever they are about

module _ {Q W : Type 0} (left : Q → Option (List ℕ)) (asking : Q → Health) (pulls : Q → ℕ) (well : W → Health) (was is : Q) (after : W)
    (bytes : List ℕ) where
  pub ends_stopped : (stop : DialogueFault) → asking is ≡ healths.Well → LeavesWriter {A = Unit {0}} (Err stop) (well after)
      → EndsBehind left asking pulls well was is after {A = Unit {0}} bytes (Err stop)
  ends_stopped (stops.Questions fault) asks health = absurd health
  ends_stopped (stops.Write fault) asks health = (asks, health)
  ends_stopped stops.OutOfMemory asks health = (asks, health)
  ends_stopped (stops.Lost loss) asks health = (asks, health)

  pub ends_over : (r : Result (Unit {0}) DialogueFault) → IsAtEnd (left is) ⊎ ((lines : List (List ℕ)) × AreLinesToQuit bytes lines)
      → asking is ≡ healths.Well → LeavesWriter r (well after) → EndsBehind left asking pulls well was is after bytes r
  ends_over (Ok done) over asks health = (over, asks, health)
  ends_over (Err stop) over asks health = ends_stopped stop asks health

-- all was passed on behind a stop, or the writer failed
pub lost_passed : (Loses : Loss → Type 0) (stop last : DialogueFault) → TellsLoss {A = Unit {0}} Loses (Err stop)
    → (last ≡ stop) ⊎ IsOfWriter last → TellsLoss {A = Unit {0}} Loses (Err last)
lost_passed Loses stop last tells (inl same) =
    subst (λ (s : DialogueFault). TellsLoss {A = Unit {0}} Loses (Err s)) (sym same) tells
lost_passed Loses stop (stops.Write fault) tells (inr writes) = tt
lost_passed Loses stop (stops.Questions fault) tells (inr writes) = tt
lost_passed Loses stop stops.OutOfMemory tells (inr writes) = tt
lost_passed Loses stop (stops.Lost loss) tells (inr writes) = absurd writes

pub lost_none : (Loses : Loss → Type 0) (r : Result (Unit {0}) DialogueFault) → IfErr r IsOfWriter → TellsLoss Loses r
lost_none Loses (Ok done) writes = tt
lost_none Loses (Err (stops.Write fault)) writes = tt
lost_none Loses (Err (stops.Questions fault)) writes = tt
lost_none Loses (Err stops.OutOfMemory) writes = tt
lost_none Loses (Err (stops.Lost loss)) writes = absurd writes

-- ---- what came so far

module _ (About : HeapValue → Type 0) (IsAnswer : HeapValue → Question → List ℕ → Type 0) {Q W : Type 0} (left : Q → Option (List ℕ))
    (written : W → Option (List ℕ)) (was : Q) (before : W) where
  -- and what is kept of it
  pub record SoFar (is : Q) (after : W) (kept : List ℕ) : Type 0 where
    pub bytes : List ℕ
    pub consumed : Consumes (left was) (left is) bytes
    pub taken : TakesLines bytes kept
    pub heard : (heap : HeapValue) → About heap → Heard (IsAnswer heap) bytes (written before) (written after) kept

  pub so_far_none : (kept : List ℕ) → kept ≡ [] → SoFar was before kept
  so_far_none kept empty = record {
    bytes = [];
    consumed = Consumes-nil (left was);
    taken = subst (TakesLines []) (sym empty) taken_none;
    heard = λ heap about. subst (Heard (IsAnswer heap) [] (written before) (written before)) (sym empty)
        (heard_none (IsAnswer heap) (written before));
  }

  module _ (is : Q) (mid : W) (kept : List ℕ) (so_far : SoFar is mid kept) where
    -- the writer flushed all
    abbrev pub so_far_flushed : (after : W) → Keeps (written mid) (written after) → SoFar is after kept
    so_far_flushed after keeps = record {
      bytes = so_far.bytes;
      consumed = so_far.consumed;
      taken = so_far.taken;
      heard = λ heap about.
          heard_still (IsAnswer heap) so_far.bytes (written before) (written mid) kept (so_far.heard heap about) (written after) keeps;
    }

    -- so more may be read
    pub may_read_on : (flushed : W → Type 0) (may_read : Q → W → Type 0)
        → LetsReadOnAbout About IsAnswer left written flushed may_read was (written before) → flushed mid → may_read is mid
    may_read_on flushed may_read leave all = leave so_far.bytes is mid so_far.consumed so_far.taken.lines
        (taken_open so_far.bytes kept so_far.taken)
        (λ heap about. heard_open (IsAnswer heap) so_far.bytes (written before) (written mid) kept (so_far.heard heap about)) all

    -- a piece more came
    module _ (next : Q) (piece : List ℕ) (consumes : Consumes (left is) (left next) piece) where
      pub came_more : Consumes (left was) (left next) (so_far.bytes ++ piece)
      came_more = Consumes-trans (left was) (left is) (left next) so_far.bytes piece so_far.consumed consumes

      -- and was gone over
      pub so_far_more : (after : W) (kept_then : List ℕ) → TakesLines (so_far.bytes ++ piece) kept_then
          → ((heap : HeapValue) → About heap
          → Heard (IsAnswer heap) (so_far.bytes ++ piece) (written before) (written after) kept_then) → SoFar next after kept_then
      so_far_more after kept_then taken heard = record {
        bytes = so_far.bytes ++ piece;
        consumed = came_more;
        taken = taken;
        heard = heard;
      }
