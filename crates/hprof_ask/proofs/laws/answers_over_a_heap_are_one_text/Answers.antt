use Rattle.std.proofs.Common.{sym, subst}
use Rattle.hprof_questions.specs.Answering.{AreAnswers}
use Rattle.hprof_questions.proofs.Hearing.{answers_then}
use Rattle.hprof_questions.proofs.OneText.{answers_ended, answers_front, answers_once, answers_split, some_answers}
use Rattle.hprof_ask.specs.HeapAnswers.{IsHeapAnswer}
use Rattle.hprof_ask.specs.OneHeapAnswer.{one_heap_answer}
use Rattle.hprof_ask.specs.SomeHeapAnswer.{some_answer}
use Rattle.hprof_ask.proofs.laws.answers_over_a_heap_are_one_text.Goals as goal

pub returns-clause-some : goal.returns-clause-some
returns-clause-some c = λ summaries ids facts lines agree.
    some_answers (IsHeapAnswer summaries ids facts) (some_answer ids facts agree summaries) lines

pub returns-clause-one : goal.returns-clause-one
returns-clause-one c = λ summaries ids facts. answers_once (IsHeapAnswer summaries ids facts) (one_heap_answer summaries ids facts)

pub returns-clause-together : goal.returns-clause-together
returns-clause-together c = λ summaries ids facts lines more text none. (
  answers_split (IsHeapAnswer summaries ids facts) lines more text none,
  λ it. subst (AreAnswers (IsHeapAnswer summaries ids facts) _) (sym it.4)
      (answers_then (IsHeapAnswer summaries ids facts) lines more it.0 it.1 none it.2 it.3),
)

pub returns-clause-behind : goal.returns-clause-behind
returns-clause-behind c = λ summaries ids facts lines more last text quits. (
  answers_front (IsHeapAnswer summaries ids facts) lines more last text quits,
  answers_ended (IsHeapAnswer summaries ids facts) lines more last text quits,
)
