-- What a call answers that reads parts, and then answers questions about their heap, whose objects are read again for each answer.
use Rattle.std.specs.Prelude.{◌≡◌, ℕ, List, Option, Some, None, Result, Ok, Err, ⊤}
use Rattle.std.specs.Io.KnownBytes.{Consumes}
use Rattle.hprof_devices.specs.declared.health.Health.{Health}
use Rattle.hprof_stream.specs.declared.limits.Limits.{Limits}
use Rattle.hprof_stream.specs.declared.summary.PartSummary.{PartSummary}
use Rattle.hprof_rows.specs.HeapValue.{HeapValue}
use Rattle.hprof_engine.specs.declared.loss.Loss.{Loss}
use Rattle.hprof_engine.specs.declared.tool_fault.ToolFault.{ToolFault}
use Rattle.hprof_engine.specs.Joining.{Agree, Tell}
use Rattle.hprof_engine.specs.Makes.{IsChange}
use Rattle.hprof_engine.specs.Summaries.{AreSummaries}
use Rattle.hprof_stored.specs.Storing.{HaveObject}
use Rattle.hprof_diff.specs.Comparing.{Counts}
use Rattle.hprof_questions.specs.declared.question.Question.{Question}
use Rattle.hprof_questions.specs.declared.dialogue_fault.DialogueFault.{DialogueFault}
use Rattle.hprof_questions.specs.declared.dialogue_fault.DialogueFault.TheVariants as stops
use Rattle.hprof_questions.specs.Dialogue.{AnswersDialogue, AnswersLines, AreOpenLines, EndsDialogue}
use Rattle.hprof_ask.specs.declared.ask_fault.AskFault.{AskFault}
use Rattle.hprof_ask.specs.declared.ask_fault.AskFault.TheVariants as faults
use Rattle.hprof_ask.specs.Asks.{fault_of_parts}
use Rattle.hprof_ask.specs.HeapAnswers.{IsHeapAnswer}

-- the parts agree, and that holds of the answers over the heap that they state and over what was read of each
pub record OverTold (parts : List (List ℕ)) (P : (Question → List ℕ → Type 0) → Type 0) : Type 0 where
  pub heap : HeapValue
  pub agree : Agree parts heap.ids heap.millis heap.facts
  pub summaries : List PartSummary
  pub of_parts : AreSummaries parts summaries
  pub holds : P (IsHeapAnswer summaries heap.ids heap.facts)

-- if the parts were read, that holds of how the dialogue ended
abbrev pub OfDialogue : Option AskFault → (Result (Unit {0}) DialogueFault → Type 0) → Type 0
OfDialogue None Holds = Holds (Ok tt)
OfDialogue (Some (faults.Dialogue stop)) Holds = Holds (Err stop)
OfDialogue (Some (faults.Parts fault)) Holds = ⊤

-- what a call answers that reads all parts, goes over their objects, and then takes lines and answers them
--   left, health, pulls: what a reader of parts has left to tell, how it is doing, how often it was pulled
--   asked, asking, turns: the same of the source of questions;  written, well: what the writer holds, where it tells, and how it is doing
--   old, new; was, is; before, after: the readers, the source and the writer, before and afterwards
--   ended: the fault that the call ended with, if any
pub record AsksStored {R Q W : Type 0} (left : R → Option (List ℕ)) (health : R → Health) (pulls : R → ℕ) (asked : Q → Option (List ℕ))
    (asking : Q → Health) (turns : Q → ℕ) (written : W → Option (List ℕ)) (well : W → Health) (limits : Limits) (old new : List R)
    (was is : Q) (before after : W) (ended : Option AskFault) : Type 0 where
  -- what is answered of the parts and of their objects, all of which are gone over before the first question is read
  pub counts : Counts left health pulls HaveObject ⊤ limits old new (fault_of_parts ended)
  -- where they are refused, nothing was read of the questions, and nothing was written
  pub refused : (fault : ToolFault) → ended ≡ Some (faults.Parts fault) → (is ≡ was) × (after ≡ before)
  -- what was taken of the questions and written of the answers, if the parts are told: they agree
  pub answers : OfDialogue ended (λ result. (parts : List (List ℕ)) → Tell left old parts
      → OverTold parts (λ IsAnswer. AnswersDialogue IsAnswer asked asking turns written well was is before after result))
  -- how the dialogue ended, whether they are told or not
  pub ends : OfDialogue ended (λ result. EndsDialogue asked asking turns well was is after result)
  -- objects were lost while questions were answered: a part that is told did not change
  pub lost : (loss : Loss) → ended ≡ Some (faults.Dialogue (stops.Lost loss)) → (parts : List (List ℕ)) → Tell left old parts
      → IsChange loss → ⊥

-- the leave to read questions on: all lines that ended in what came are answered, none of them ends the dialogue, and all answers were
-- flushed. If the parts are told, the answers are those over the heap that they state and over their summaries
--   start: what the writer held before
abbrev pub LetsAskStored : {R Q W : Type 0} → (left : R → Option (List ℕ)) → (asked : Q → Option (List ℕ))
    → (written : W → Option (List ℕ)) → (flushed : W → Type 0) → (may_read : Q → W → Type 0) → List R → Q → (start : Option (List ℕ))
    → Type 0
LetsAskStored {Q = Q} {W = W} left asked written flushed may_read readers was start = (bytes : List ℕ) (is : Q) (after : W)
    → Consumes (asked was) (asked is) bytes → (lines : List (List ℕ)) → AreOpenLines bytes lines
    → ((told : List (List ℕ)) → Tell left readers told → (heap : HeapValue) → Agree told heap.ids heap.millis heap.facts
    → (summaries : List PartSummary) → AreSummaries told summaries
    → AnswersLines (IsHeapAnswer summaries heap.ids heap.facts) AreOpenLines bytes start (written after))
    → flushed after → may_read is after
