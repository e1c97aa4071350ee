use Rattle.hprof_questions.specs.Answering.{AreAnswers}
use Rattle.hprof_questions.proofs.OneText.{answers_once, some_answers}
use Rattle.hprof_engine.proofs.MadeOnce.{made_once, made_some}
use Rattle.hprof_ask.specs.HeapAnswers.{IsHeapAnswer}
use Rattle.hprof_ask.specs.OneHeapAnswer.{one_heap_answer}
use Rattle.hprof_ask.specs.SomeHeapAnswer.{some_answer}
use Rattle.hprof_ask.proofs.laws.answers_over_parts_are_one_text.Goals as goal

pub returns-clause-some : goal.returns-clause-some
returns-clause-some c = λ lines parts ids millis facts.
    made_some (λ summaries heap text. AreAnswers (IsHeapAnswer summaries heap.ids heap.facts) lines text)
    (λ summaries heap agree. some_answers (IsHeapAnswer summaries heap.ids heap.facts)
    (some_answer heap.ids heap.facts agree summaries) lines)
    parts (record { ids = ids; millis = millis; facts = facts })

pub returns-clause-one : goal.returns-clause-one
returns-clause-one c = λ lines. made_once (λ summaries heap text. AreAnswers (IsHeapAnswer summaries heap.ids heap.facts) lines text)
    (λ summaries heap. answers_once (IsHeapAnswer summaries heap.ids heap.facts) (one_heap_answer summaries heap.ids heap.facts) lines)
