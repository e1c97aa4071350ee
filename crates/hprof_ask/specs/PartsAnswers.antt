-- Answers over the heap of parts.
use Rattle.std.specs.Prelude.{ℕ, List}
use Rattle.hprof_engine.specs.Makes.{IsMadeOf}
use Rattle.hprof_questions.specs.Answering.{AreAnswers}
use Rattle.hprof_ask.specs.HeapAnswers.{IsHeapAnswer}

-- the parts agree, and the text is the answers to the lines over what was read of each and the heap that they state
abbrev pub AreAnswersOfParts : (lines parts : List (List ℕ)) → List ℕ → Type 0
AreAnswersOfParts lines = IsMadeOf (λ summaries heap text. AreAnswers (IsHeapAnswer summaries heap.ids heap.facts) lines text)
