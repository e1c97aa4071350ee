-- Answers to lines, whatever they are about.
--   IsAnswer: this text is the answer to that question
use Rattle.std.specs.Prelude.{◌≡◌, ◌≢◌, ◌⊎◌, ⊤, ℕ, List, [], ◌∷◌, ◌++◌, ◌≤◌, length, take, Option, Result, Ok, Err}
use Rattle.std.specs.Io.KnownBytes.{Appends}
use Rattle.hprof_devices.specs.declared.health.Health.{Health}
use Rattle.hprof_devices.specs.declared.health.Health.TheVariants.{Well}
use Rattle.hprof_devices.specs.Device.{health_after}
use Rattle.hprof_engine.specs.declared.loss.Loss.{Loss}
use Rattle.hprof_questions.specs.declared.dialogue.Course.{Course}
use Rattle.hprof_questions.specs.declared.dialogue.Course.TheVariants as courses
use Rattle.hprof_questions.specs.declared.question.Question.{Question}
use Rattle.hprof_questions.specs.declared.question.Question.TheVariants as questions
use Rattle.hprof_questions.specs.declared.dialogue_fault.DialogueFault.{DialogueFault}
use Rattle.hprof_questions.specs.declared.dialogue_fault.DialogueFault.TheVariants as stops
use Rattle.hprof_questions.specs.Asked.{Asks, Quits}

-- the text answers what the line asks
pub record IsLineAnswer (IsAnswer : Question → List ℕ → Type 0) (line text : List ℕ) : Type 0 where
  pub question : Question
  pub asks : Asks line question
  pub is : IsAnswer question text

-- the text is the answers to the lines, one behind the other, up to the first line that ends the dialogue
abbrev pub AreAnswers : (Question → List ℕ → Type 0) → List (List ℕ) → List ℕ → Type 0
AreAnswers IsAnswer [] text = text ≡ []
AreAnswers IsAnswer (line ∷ lines) text = (Quits line × (text ≡ []))
    ⊎ (¬ (Quits line) × (answer : List ℕ) × (rest : List ℕ) × IsLineAnswer IsAnswer line answer × AreAnswers IsAnswer lines rest
    × (text ≡ answer ++ rest))

-- all of the text was written; where it stopped some of it, from the front, and nothing where that which it is about was lost
abbrev pub WritesAnswer : {A : Type 0} → Option (List ℕ) → Option (List ℕ) → Result A DialogueFault → List ℕ → Type 0
WritesAnswer old new (Ok done) text = Appends old new text
WritesAnswer old new (Err (stops.Lost loss)) text = new ≡ old
WritesAnswer old new (Err stop) text = (n : ℕ) × (n ≤ length text) × Appends old new (take n text)

-- a question was taken: the dialogue ended at one that ends it, and at no other
abbrev pub EndsAtQuit : Question → Result Course DialogueFault → Type 0
EndsAtQuit question (Ok courses.Ended) = question ≡ questions.Quit
EndsAtQuit question (Ok courses.Open) = question ≢ questions.Quit
EndsAtQuit question (Err stop) = question ≢ questions.Quit

-- a question was taken: it ended the dialogue and nothing was written, or it was answered
abbrev pub TakesQuestion : (Question → List ℕ → Type 0) → Question → (old new : Option (List ℕ)) → Result Course DialogueFault → Type 0
TakesQuestion IsAnswer question old new (Ok courses.Ended) = (question ≡ questions.Quit) × (new ≡ old)
TakesQuestion IsAnswer question old new (Ok courses.Open) =
    (question ≢ questions.Quit) × (text : List ℕ) × IsAnswer question text × Appends old new text
TakesQuestion IsAnswer question old new (Err stop) =
    (question ≢ questions.Quit) × (text : List ℕ) × IsAnswer question text × WritesAnswer {A = Unit {0}} old new (Err stop) text

-- the writer failed or stuck
abbrev pub IsOfWriter : DialogueFault → Type 0
IsOfWriter (stops.Write fault) = ⊤
IsOfWriter other = ⊥

-- where that which the answers are about was lost, it says why
--   Loses: it is lost for that reason
abbrev pub TellsLoss : {A : Type 0} → (Loses : Loss → Type 0) → Result A DialogueFault → Type 0
TellsLoss Loses (Ok done) = ⊤
TellsLoss Loses (Err (stops.Lost loss)) = Loses loss
TellsLoss Loses (Err other) = ⊤

-- the health in which a writer is left by an answer: only its own faults leave it other than well
abbrev pub LeavesWriter : {A : Type 0} → Result A DialogueFault → Health → Type 0
LeavesWriter (Ok done) health = health ≡ Well
LeavesWriter (Err (stops.Write fault)) health = health ≡ health_after fault
LeavesWriter (Err stops.OutOfMemory) health = health ≡ Well
LeavesWriter (Err (stops.Lost loss)) health = health ≡ Well
LeavesWriter (Err (stops.Questions fault)) health = ⊥

-- all that was written was flushed, unless the writer failed
--   Flushed: nothing is held back
abbrev pub PassesOn : {A : Type 0} → Result A DialogueFault → (Flushed : Type 0) → Type 0
PassesOn (Ok done) Flushed = Flushed
PassesOn (Err (stops.Write fault)) Flushed = ⊤
PassesOn (Err stops.OutOfMemory) Flushed = Flushed
PassesOn (Err (stops.Lost loss)) Flushed = Flushed
PassesOn (Err (stops.Questions fault)) Flushed = Flushed
