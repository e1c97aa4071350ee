-- What a call answers that reads parts, and then answers questions about their heap.
use Rattle.std.specs.Prelude.{◌≡◌, ◌⊎◌, ℕ, ◌-◌, ◌^◌, ◌<◌, ◌≤◌, List, length, All, Option, Some, None, Result, Ok, Err, ⊤}
use Rattle.std.specs.Io.KnownBytes.{IsAtEnd}
use Rattle.hprof_devices.specs.declared.health.Health.{Health}
use Rattle.hprof_devices.specs.declared.health.Health.TheVariants as healths
use Rattle.hprof_devices.specs.declared.health.ReadFault.{ReadFault}
use Rattle.hprof_devices.specs.declared.health.WriteFault.{WriteFault}
use Rattle.hprof_devices.specs.Device.{health_after}
use Rattle.hprof_values.specs.declared.ids.IdSize.{IdSize}
use Rattle.hprof_items.specs.FactValue.{FactValue}
use Rattle.hprof_stream.specs.declared.limits.Limits.{Limits}
use Rattle.hprof_stream.specs.declared.summary.PartSummary.{PartSummary}
use Rattle.hprof_rows.specs.HeapValue.{HeapValue}
use Rattle.hprof_heap.specs.State.{IsState}
use Rattle.hprof_engine.specs.declared.loss.Loss.{Loss}
use Rattle.hprof_engine.specs.declared.tool_fault.ToolFault.{ToolFault}
use Rattle.hprof_engine.specs.declared.tool_fault.ToolFault.TheVariants as tool
use Rattle.hprof_engine.specs.Joining.{Tell, Agree, IsHindered, IsOfReading, IsOkOrConflict, none_known}
use Rattle.hprof_engine.specs.Makes.{Reads}
use Rattle.hprof_engine.specs.Summaries.{AreSummaries}
use Rattle.hprof_questions.specs.declared.question.Question.{Question}
use Rattle.hprof_questions.specs.declared.dialogue_fault.DialogueFault.TheVariants as stops
use Rattle.hprof_questions.specs.Answering.{PassesOn}
use Rattle.hprof_questions.specs.Dialogue.{AnswersLines, AnswersSome, AreOpenLines, Came, IsOver, LetsReadOn}
use Rattle.hprof_ask.specs.declared.ask_fault.AskFault.{AskFault}
use Rattle.hprof_ask.specs.declared.ask_fault.AskFault.TheVariants as faults
use Rattle.hprof_ask.specs.HeapAnswers.{IsHeapAnswer}

-- the fault that a call ended with, if any
abbrev pub fault_of_asking : {A : Type 0} → Result A AskFault → Option AskFault
fault_of_asking (Ok done) = None
fault_of_asking (Err fault) = Some fault

-- that with which the reading of parts ended, if any
abbrev pub fault_of_parts : Option AskFault → Option ToolFault
fault_of_parts None = None
fault_of_parts (Some (faults.Parts fault)) = Some fault
fault_of_parts (Some (faults.Dialogue stop)) = None

-- memory was wanted while questions were answered
abbrev pub WantsMemory : Option AskFault → Type 0
WantsMemory (Some (faults.Dialogue stops.OutOfMemory)) = ⊤
WantsMemory other = ⊥

-- all that was written was flushed, unless the parts were refused or the writer failed
--   Flushed: nothing is held back
abbrev pub PassesAnswersOn : Option AskFault → (Flushed : Type 0) → Type 0
PassesAnswersOn None Flushed = Flushed
PassesAnswersOn (Some (faults.Parts fault)) Flushed = ⊤
PassesAnswersOn (Some (faults.Dialogue stop)) Flushed = PassesOn {A = Unit {0}} (Err stop) Flushed

-- nothing but a conflict of the parts, if anything
abbrev pub IsAnsweredOrConflict : Option AskFault → Type 0
IsAnsweredOrConflict None = ⊤
IsAnsweredOrConflict (Some (faults.Parts fault)) = IsOkOrConflict (Some fault)
IsAnsweredOrConflict (Some (faults.Dialogue stop)) = ⊥

-- that holds of the answers over the heap that the parts state and over what was read of each, if they are told
pub record OverParts {R : Type 0} (left : R → Option (List ℕ)) (old : List R) (P : (Question → List ℕ → Type 0) → Type 0) : Type 0 where
  pub heap : HeapValue
  pub agree : (parts : List (List ℕ)) → Tell left old parts → Agree parts heap.ids heap.millis heap.facts
  pub summaries : List PartSummary
  pub of_parts : (parts : List (List ℕ)) → Tell left old parts → AreSummaries parts summaries
  pub holds : P (IsHeapAnswer summaries heap.ids heap.facts)

-- what a call answers that reads all parts, and then takes lines and answers them
--   left, health, pulls: what a reader of parts has left to tell, how it is doing, how often it was pulled
--   asked, asking, turns: the same of the source of questions;  written, well: what the writer holds, where it tells, and how it is doing
--   old, new; was, is; before, after: the readers, the source and the writer, before and afterwards
--   ended: the fault that the call ended with, if any
pub record Asks {R Q W : Type 0} (left : R → Option (List ℕ)) (health : R → Health) (pulls : R → ℕ) (asked : Q → Option (List ℕ))
    (asking : Q → Health) (turns : Q → ℕ) (written : W → Option (List ℕ)) (well : W → Health) (limits : Limits) (old new : List R)
    (was is : Q) (before after : W) (ended : Option AskFault) : Type 0 where
  -- what is answered of the parts, which are all read before the first question is
  pub reads : Reads left health pulls none_known limits old new (fault_of_parts ended)
  -- where they are refused, nothing was read of the questions, and nothing was written
  pub refused : (fault : ToolFault) → ended ≡ Some (faults.Parts fault) → (is ≡ was) × (after ≡ before)
  -- parts are refused for a fault of reading, or no memory was left for the summaries of parts, of which there are some: nothing was read
  pub kind : (fault : ToolFault) → ended ≡ Some (faults.Parts fault)
      → IsOfReading (Some fault) ⊎ ((fault ≡ tool.OutOfMemory) × (0 < length old) × (new ≡ old))
  -- Ok: all lines are answered, or all up to one that ends the dialogue, and all are well
  pub ok : ended ≡ None → OverParts left old (λ IsAnswer. IsOver IsAnswer asked asking turns written well was is before after)
      × (asking is ≡ healths.Well) × (well after ≡ healths.Well)
  -- the questions could not be read on: all lines that had ended are answered, and none of them ends the dialogue
  pub questions : (fault : ReadFault) → ended ≡ Some (faults.Dialogue (stops.Questions fault))
      → OverParts left old (λ IsAnswer. Came IsAnswer asked asking turns written well was is before after
      (AnswersLines IsAnswer AreOpenLines)) × ((asking is ≡ healths.Failed) ⊎ (2 ^ 64 - 1 ≤ turns is)) × (well after ≡ healths.Well)
  -- the writer failed or stuck: the lines that were taken are answered, of the last answer a front
  pub write : (fault : WriteFault) → ended ≡ Some (faults.Dialogue (stops.Write fault))
      → OverParts left old (λ IsAnswer. Came IsAnswer asked asking turns written well was is before after
      (AnswersSome IsAnswer (IsAtEnd (asked is))))
      × (asking is ≡ healths.Well) × (well after ≡ health_after fault)
  -- memory was wanted, when all parts were read: so are they
  pub memory : ended ≡ Some (faults.Dialogue stops.OutOfMemory)
      → OverParts left old (λ IsAnswer. Came IsAnswer asked asking turns written well was is before after
      (AnswersSome IsAnswer (IsAtEnd (asked is))))
      × (asking is ≡ healths.Well) × (well after ≡ healths.Well)
  -- a heap in memory is never lost
  pub lost : (loss : Loss) → ended ≡ Some (faults.Dialogue (stops.Lost loss)) → ⊥
  -- no other answer where the parts state something together, all stay well, nothing hindered reading and no memory was wanted
  pub no_other : (parts : List (List ℕ)) (ids : IdSize) (millis : ℕ) (facts : List FactValue) → Tell left old parts
      → IsState parts ids millis facts → All (λ reader. health reader ≡ healths.Well) new → asking is ≡ healths.Well
      → well after ≡ healths.Well → (2 ^ 64 - 1 ≤ turns is → ⊥) → (IsHindered (fault_of_parts ended) → ⊥) → (WantsMemory ended → ⊥)
      → IsAnsweredOrConflict ended

-- the leave to read questions on, over the heap that the parts state and over their summaries
--   start: what the writer held before
abbrev pub LetsAsk : {R Q W : Type 0} → (left : R → Option (List ℕ)) → (asked : Q → Option (List ℕ)) → (written : W → Option (List ℕ))
    → (flushed : W → Type 0) → (may_read : Q → W → Type 0) → List R → Q → (start : Option (List ℕ)) → Type 0
LetsAsk left asked written flushed may_read readers was start = (heap : HeapValue) (summaries : List PartSummary)
    → ((parts : List (List ℕ)) → Tell left readers parts → Agree parts heap.ids heap.millis heap.facts)
    → ((parts : List (List ℕ)) → Tell left readers parts → AreSummaries parts summaries)
    → LetsReadOn (IsHeapAnswer summaries heap.ids heap.facts) asked written flushed may_read was start
