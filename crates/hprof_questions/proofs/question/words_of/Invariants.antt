use Rattle.std.proofs.Common.{ℕ, List, take}
use Rattle.std.specs.List.{AllByRecursion}
use Rattle.hprof_questions.specs.Asked.{IsLineOf}
use Rattle.hprof_questions.specs.Words.{all_words}
use Rattle.hprof_questions.proofs.question.words_of.Given as goal

abbrev pub invariant-loop-word : goal.invariant-loop-word
invariant-loop-word l = AllByRecursion (λ word. (text : List ℕ) → IsLineOf l.line word text → ⊥) (take l.word-index all_words)
