use Rattle.std.proofs.Common.{ℕ, List}
use Rattle.hprof_questions.specs.Asked.{IsLineOf}
use Rattle.hprof_questions.proofs.WordLists.{of_all_words, one_more_word}
use Rattle.hprof_questions.proofs.question.words_of.Goals as goal

pub returns : goal.returns
returns c = of_all_words (λ word. (text : List ℕ) → IsLineOf c.args.line.now word text → ⊥) c.loop-word.word-index
    c.loop-word-test.false c.loop-word.invariant

pub loop-word-preserved : goal.loop-word-preserved
loop-word-preserved c = one_more_word (λ word. (text : List ℕ) → IsLineOf c.args.line.now word text → ⊥) c.loop-word.word-index
    c.loop-word-test.true c.loop-word.invariant c.in_default.ensures
