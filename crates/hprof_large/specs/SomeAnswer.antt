-- A question has an answer about a heap whose objects are gone through.
use Rattle.std.proofs.Common.{ℕ, List}
use Rattle.hprof_values.specs.declared.ids.IdSize.{IdSize}
use Rattle.hprof_items.specs.FactValue.{FactValue}
use Rattle.hprof_stream.specs.declared.summary.PartSummary.{PartSummary}
use Rattle.hprof_rows.specs.Conflict.{IsConsistent}
use Rattle.hprof_rows.specs.HeapValue.{HeapValue}
use Rattle.hprof_rows.proofs.Order.{order_agrees}
use Rattle.hprof_heap.specs.declared.heap.Heap.{Heap}
use Rattle.hprof_passes.specs.Passing.{IsWhole}
use Rattle.hprof_questions.specs.declared.question.Question.{Question}
use Rattle.hprof_ask.specs.HeapAnswers.{IsHeapAnswer}
use Rattle.hprof_ask.specs.SomeHeapAnswer.{some_answer}
use Rattle.hprof_large.specs.Whole.{IsWholeHeap}

module _ (heap : Heap) (MakeUp : IdSize → List FactValue → List FactValue → Type 0)
    (are_whole : (ids : IdSize) (facts all : List FactValue) → MakeUp ids facts all → IsWhole ids facts all) where
  -- its facts agree
  pub whole_agrees : (whole : HeapValue) → IsWholeHeap heap MakeUp whole → IsConsistent whole.facts
  whole_agrees whole is = order_agrees whole.facts (are_whole _ _ whole.facts is.made_up).ordered

pub some_answer_of_whole : (summaries : List PartSummary) (heap : Heap) (MakeUp : IdSize → List FactValue → List FactValue → Type 0)
    → ((ids : IdSize) (facts all : List FactValue) → MakeUp ids facts all → IsWhole ids facts all) → (whole : HeapValue)
    → IsWholeHeap heap MakeUp whole → (question : Question)
    → (text : List ℕ) × IsHeapAnswer summaries whole.ids whole.facts question text
some_answer_of_whole summaries heap MakeUp are_whole whole is =
    some_answer whole.ids whole.facts (whole_agrees heap MakeUp are_whole whole is) summaries
