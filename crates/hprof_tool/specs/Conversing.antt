-- What answering questions about the heap of files comes to.
use Rattle.std.specs.Prelude.{◌≡◌, ◌⊎◌, ◌++◌, ℕ, ◌-◌, ◌^◌, ◌≤◌, List, [], Option, Some, None, ⊤}
use Rattle.std.specs.Borrow.{Bor}
use Rattle.std.specs.Io.KnownBytes.{append_known}
use Rattle.std.specs.Io.Buffered.{writer_buffer}
use Rattle.hprof_devices.specs.Buffered.{buffered_of}
use Rattle.hprof_devices.specs.declared.buffered.BufferedDevice.{BufferedDevice}
use Rattle.hprof_devices.specs.declared.health.Health.{Health}
use Rattle.hprof_devices.specs.declared.health.Health.TheVariants as healths
use Rattle.hprof_devices.specs.declared.health.ReadFault.{ReadFault}
use Rattle.hprof_stream.specs.declared.summary.PartSummary.{PartSummary}
use Rattle.hprof_rows.specs.HeapValue.{HeapValue}
use Rattle.hprof_engine.specs.declared.loss.Loss.{Loss}
use Rattle.hprof_engine.specs.declared.tool_fault.ToolFault.{ToolFault}
use Rattle.hprof_engine.specs.declared.tool_fault.ToolFault.TheVariants as tool
use Rattle.hprof_engine.specs.Joining.{Agree, Tell}
use Rattle.hprof_engine.specs.Makes.{IsChange, Reads}
use Rattle.hprof_engine.specs.Summaries.{AreSummaries}
use Rattle.hprof_stored.specs.StoredMaking.{stored_dump_making}
use Rattle.hprof_stored.specs.Storing.{HaveObject}
use Rattle.hprof_diff.specs.Comparing.{IsOfCounting}
use Rattle.hprof_questions.specs.declared.question.Question.{Question}
use Rattle.hprof_questions.specs.declared.dialogue_fault.DialogueFault.TheVariants as stops
use Rattle.hprof_questions.specs.Dialogue.{AnswersBefore, AnswersDialogue, AnswersLines, AnswersSome, AreOpenLines}
use Rattle.hprof_questions.specs.Lines.{AreLines}
use Rattle.hprof_ask.specs.declared.ask_fault.AskFault.{AskFault}
use Rattle.hprof_ask.specs.declared.ask_fault.AskFault.TheVariants as faults
use Rattle.hprof_ask.specs.Asks.{LetsAsk, fault_of_parts}
use Rattle.hprof_ask.specs.HeapAnswers.{IsHeapAnswer}
use Rattle.hprof_large.specs.AskingStored.{LetsAskStored, OfDialogue, OverTold}
use Rattle.hprof_tool.specs.declared.program.refused.Refused.{Refused}
use Rattle.hprof_tool.specs.declared.program.refused.Refused.TheVariants as refusals
use Rattle.hprof_tool.specs.Folder.{Answered}
use Rattle.hprof_tool.specs.Program.{OfParts, IsOfMaking, IsRefusal, IsReportRefusal, refused_of, usual_limits}

-- how the program refuses what asking questions ended with
abbrev pub refused_asking : AskFault → Refused
refused_asking (faults.Parts fault) = refused_of fault
refused_asking (faults.Dialogue (stops.Questions fault)) = refusals.Questions
refused_asking (faults.Dialogue (stops.Write fault)) = refusals.Engine (tool.Write fault)
refused_asking (faults.Dialogue (stops.Lost loss)) = refusals.Engine (tool.Lost loss)
refused_asking (faults.Dialogue stops.OutOfMemory) = refusals.OutOfMemory

-- nothing is held back in the buffer before a stream
abbrev pub is_flushed : {W : Type 0} → BufferedDevice W → Type 0
is_flushed device = writer_buffer (buffered_of device) ≡ []

-- the source of questions failed, or was pulled as often as can be counted
abbrev pub CannotReadOn : {Q : Type 0} → (Q → Health) → (Q → ℕ) → Q → Type 0
CannotReadOn health pulls source = (health source ≡ healths.Failed) ⊎ (2 ^ 64 - 1 ≤ pulls source)

-- objects were lost while parts were read, or while questions were answered
abbrev pub LosesObjects : Option AskFault → Loss → Type 0
LosesObjects ended loss = (ended ≡ Some (faults.Parts (tool.Lost loss))) ⊎ (ended ≡ Some (faults.Dialogue (stops.Lost loss)))

-- what a call answers that reads all parts, and then takes lines and answers them; memory is taken for each object, also for one that is
-- known
--   left, health, pulls: what a reader of parts has left to tell, how it is doing, how often it was pulled
--   asked, asking, turns: the same of the source of questions;  written, well: what the writer holds, where it tells, and how it is doing
--   old, new; was, is; before, after: the readers, the source and the writer, before and afterwards
--   ended: the fault that the call ended with, if any
pub record AsksReaders {R Q W : Type 0} (left : R → Option (List ℕ)) (health : R → Health) (pulls : R → ℕ) (asked : Q → Option (List ℕ))
    (asking : Q → Health) (turns : Q → ℕ) (written : W → Option (List ℕ)) (well : W → Health) (old new : List R) (was is : Q)
    (before after : W) (ended : Option AskFault) : Type 0 where
  -- what is answered of the parts, which are all read before the first question is
  pub reads : Reads left health pulls HaveObject usual_limits old new (fault_of_parts ended)
  -- where they are refused, nothing was read of the questions, and nothing was written
  pub refused : (fault : ToolFault) → ended ≡ Some (faults.Parts fault) → (is ≡ was) × (after ≡ before)
  -- such a fault is none of writing, and no heap is refused
  pub kind : IsOfCounting (fault_of_parts ended)
  -- where objects were lost, a part that is told did not change
  pub changed : (loss : Loss) → LosesObjects ended loss → (parts : List (List ℕ)) → Tell left old parts → IsChange loss → ⊥
  -- what was taken of the questions and written of the answers, if the parts are told: they agree
  pub answers : OfDialogue ended (λ result. (parts : List (List ℕ)) → Tell left old parts
      → OverTold parts (λ IsAnswer. AnswersDialogue IsAnswer asked asking turns written well was is before after result))
  -- why the questions could not be read on
  pub cause : (fault : ReadFault) → ended ≡ Some (faults.Dialogue (stops.Questions fault)) → CannotReadOn asking turns is

-- the leave to read questions on, whether objects are read again or not
--   start: what the writer held before
abbrev pub LetsAskReaders : {R Q W : Type 0} → (left : R → Option (List ℕ)) → (asked : Q → Option (List ℕ))
    → (written : W → Option (List ℕ)) → (flushed : W → Type 0) → (may_read : Q → W → Type 0) → List R → Q → (start : Option (List ℕ))
    → Type 0
LetsAskReaders left asked written flushed may_read readers was start =
    LetsAsk left asked written flushed may_read readers was start × LetsAskStored left asked written flushed may_read readers was start

-- a refusal that the questions could not be read comes of their source alone
abbrev pub HasFailed : {Q : Type 0} → (Q → Health) → (Q → ℕ) → Refused → Type 0
HasFailed {Q} health pulls why = why ≡ refusals.Questions → (source : Q) × CannotReadOn health pulls source

-- the parts agree, and that holds of the answers over the heap that they state and over their summaries
pub record OverParts (Holds : (Question → List ℕ → Type 0) → Type 0) (parts : List (List ℕ)) : Type 0 where
  pub heap : HeapValue
  pub agree : Agree parts heap.ids heap.millis heap.facts
  pub summaries : List PartSummary
  pub of_parts : AreSummaries parts summaries
  pub holds : Holds (IsHeapAnswer summaries heap.ids heap.facts)

-- a front of the questions, and the rest of them, of which that holds
pub record OfFront (questions : List ℕ) (Holds : (front rest : List ℕ) → Type 0) : Type 0 where
  pub front : List ℕ
  pub rest : List ℕ
  pub is : questions ≡ front ++ rest
  pub holds : Holds front rest

-- what is written of the answers
--   contents, old: what a stream tells that it holds, and the stream before
--   Over: that holds of the answers and of the questions, if the parts and the questions are told
module _ {O : Type 0} (contents : O → Option (List ℕ)) (old : O) (Over : ((Question → List ℕ → Type 0) → List ℕ → Type 0) → Type 0) where
  -- the answers to all lines of the questions were written, up to the first line that ends the dialogue
  abbrev pub AnswersAll : (new : O) → Type 0
  AnswersAll new = Over (λ IsAnswer questions. AnswersLines IsAnswer AreLines questions (contents old) (contents new))

  -- the answers to the lines that had ended were written, when the questions could not be read on; none of them ends the dialogue
  abbrev pub AnswersEnded : (holds : Option (List ℕ)) → Type 0
  AnswersEnded holds =
      Over (λ IsAnswer questions. OfFront questions (λ front rest. AnswersLines IsAnswer AreOpenLines front (contents old) holds))

  -- the answers to the lines that were taken were written, to the last of them a front
  abbrev pub AnswersFirst : (holds : Option (List ℕ)) → Type 0
  AnswersFirst holds = Over (λ IsAnswer questions. OfFront questions
      (λ front rest. AnswersSome IsAnswer (rest ≡ []) front (contents old) holds))

  -- the answers to the lines before the last one that was taken were written, and nothing of the answer to that
  abbrev pub AnswersButLast : (holds : Option (List ℕ)) → Type 0
  AnswersButLast holds = Over (λ IsAnswer questions. OfFront questions
      (λ front rest. AnswersBefore IsAnswer (rest ≡ []) front (contents old) holds))

  -- what a refusal says, and leaves of the stream: behind what it held stand those answers, and if it failed all but some bytes at the end
  --   Says: what it says of the parts
  abbrev pub LeavesAnswers : (Says : Refused → Type 0) → Refused → (new : Option O) → Type 0
  LeavesAnswers Says refusals.Questions (Some new) = AnswersEnded (contents new)
  LeavesAnswers Says refusals.Questions None = ⊥
  LeavesAnswers Says (refusals.Engine (tool.Write fault)) (Some new) = (unwritten : List ℕ) × AnswersFirst (append_known
      (contents new) unwritten)
  LeavesAnswers Says (refusals.Engine (tool.Write fault)) None = ⊥
  LeavesAnswers Says (refusals.Engine (tool.Lost loss)) (Some new) =
      Says (refusals.Engine (tool.Lost loss)) × ((new ≡ old) ⊎ AnswersButLast (contents new))
  LeavesAnswers Says (refusals.Engine (tool.Lost loss)) None = ⊥
  LeavesAnswers Says refusals.OutOfMemory (Some new) = (new ≡ old) ⊎ AnswersFirst (contents new)
  LeavesAnswers Says refusals.OutOfMemory None = ⊤
  LeavesAnswers Says (refusals.Engine (tool.Part index fault)) new = Says (refusals.Engine (tool.Part index fault)) × (new ≡ Some old)
  LeavesAnswers Says (refusals.Engine tool.NoParts) new = Says (refusals.Engine tool.NoParts) × (new ≡ Some old)
  LeavesAnswers Says (refusals.Engine tool.IdSizes) new = Says (refusals.Engine tool.IdSizes) × (new ≡ Some old)
  LeavesAnswers Says (refusals.Engine (tool.Conflict key)) new = Says (refusals.Engine (tool.Conflict key)) × (new ≡ Some old)
  LeavesAnswers Says (refusals.Open index) new = Says (refusals.Open index) × (new ≡ Some old)
  LeavesAnswers Says other new = ⊥

-- that holds of what readers tell
--   left, asked: what a reader of parts has left to tell, and what the source of questions has
module _ {R Q : Type 0} (left : R → Option (List ℕ)) (asked : Q → Option (List ℕ)) (readers : List R) (source : Q) where
  abbrev pub OverReaders : ((Question → List ℕ → Type 0) → List ℕ → Type 0) → Type 0
  OverReaders Holds = (parts : List (List ℕ)) → Tell left readers parts → (questions : List ℕ) → asked source ≡ Some questions
      → OverParts (λ IsAnswer. Holds IsAnswer questions) parts

-- what a refusal says of what readers tell: it is none of opening
--   old, new: the readers, before and afterwards
abbrev pub SaysOfReaders : {R : Type 0} → (R → Option (List ℕ)) → (R → Health) → (R → ℕ) → (old new : List R) → Refused → Type 0
SaysOfReaders left health pulls old new refused = IsOfMaking refused
    × ((parts : List (List ℕ)) → Tell left old parts → IsRefusal left health pulls old new stored_dump_making refused parts)

-- answered: what came of the names of files
-- tells: what a part has left to tell
-- left, contents: what the questions have left to tell, and what a stream tells that it holds
module _ {P W I O : Type 0} (answered : Answered P W) (tells : P → Option (List ℕ)) (left : I → Option (List ℕ))
    (contents : O → Option (List ℕ)) (names : List (Bor (List ℕ))) (input : I) (old : O) where
  -- that holds of the answers over the heap of the parts of these names
  abbrev pub OverFiles : ((Question → List ℕ → Type 0) → List ℕ → Type 0) → Type 0
  OverFiles Holds = OfParts answered tells names
      (λ parts. (questions : List ℕ) → left input ≡ Some questions → OverParts (λ IsAnswer. Holds IsAnswer questions) parts)

  -- the answers to all lines of the questions were written, up to the first line that ends the dialogue
  abbrev pub AnswersQuestions : (new : O) → Type 0
  AnswersQuestions = AnswersAll contents old OverFiles

  -- what a refusal says, and leaves of the stream
  --   health, pulls: how a part is doing, and how often it was pulled
  abbrev pub RefusesQuestions : (health : P → Health) (pulls : P → ℕ) → Refused → (new : Option O) → Type 0
  RefusesQuestions health pulls =
      LeavesAnswers contents old OverFiles (IsReportRefusal stored_dump_making answered tells health pulls names)
