-- A question has an answer over a heap and what was read of each part.
use Rattle.std.proofs.Common.{ℕ, List, [], ◌++◌, codes, refl, inl, inr}
use Rattle.hprof_values.specs.declared.ids.IdSize.{IdSize}
use Rattle.hprof_items.specs.FactValue.{FactValue}
use Rattle.hprof_stream.specs.declared.summary.PartSummary.{PartSummary}
use Rattle.hprof_rows.specs.Conflict.{IsConsistent}
use Rattle.hprof_rows.specs.HeapValue.{HeapValue}
use Rattle.hprof_rows.proofs.Order.{order_agrees}
use Rattle.hprof_heap.specs.declared.heap.Heap.{Heap}
use Rattle.hprof_heap.specs.Heap.{heap_of}
use Rattle.hprof_heap.specs.HeapFacts.{facts_of}
use Rattle.hprof_questions.specs.declared.question.Question.{Question}
use Rattle.hprof_questions.specs.declared.question.Question.TheVariants as questions
use Rattle.hprof_questions.specs.declared.report.Report.{Report}
use Rattle.hprof_ask.specs.HeapAnswers.{IsHeapAnswer, IsReply, IsReportReply, behind_reply, misnamed_text}
use Rattle.hprof_ask.specs.InMemory.{IsValueOf, of_value}
use Rattle.hprof_ask.specs.SomeReport.{report_or_none}
use Rattle.hprof_questions.specs.Words.{help_text}

module _ (ids : IdSize) (facts : List FactValue) (agree : IsConsistent facts) (summaries : List PartSummary) where
  report_reply : (report : Report) → (text : List ℕ) × IsReportReply summaries ids facts report text
  report_reply report = elim (report_or_none ids facts agree summaries report) [
    | inl it ↦ (it.0, inl it.1)
    | inr none ↦ (codes "no class has this name\n", inr (none, refl))
  ]

  some_reply : (question : Question) → (text : List ℕ) × IsReply summaries ids facts question text
  some_reply questions.Nothing = ([], refl)
  some_reply questions.Help = (help_text, refl)
  some_reply questions.Quit = ([], refl)
  some_reply (questions.Report report) = report_reply report
  some_reply (questions.Misnamed fault) = (misnamed_text fault ++ codes "\n", refl)
  some_reply questions.NotUnderstood = (codes "not understood\n", refl)

  -- of facts that agree
  pub some_answer : (question : Question) → (text : List ℕ) × IsHeapAnswer summaries ids facts question text
  some_answer question =
      let reply = some_reply question in
      (reply.0 ++ behind_reply question, record { reply = reply.0; is_reply = reply.1; is = refl })

-- the facts of every heap agree
heap_agrees : (heap : Heap) → IsConsistent (facts_of heap)
unfolding facts_of
heap_agrees heap = order_agrees (heap_of heap).facts heap.sound.heap.ordered

pub some_heap_answer : (summaries : List PartSummary) (heap : Heap) (value : HeapValue) → IsValueOf heap value → (question : Question)
    → (text : List ℕ) × IsHeapAnswer summaries value.ids value.facts question text
some_heap_answer summaries heap value is =
    some_answer value.ids value.facts (of_value (λ ids facts. IsConsistent facts) heap value is (heap_agrees heap)) summaries
