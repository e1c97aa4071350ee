-- A question has one answer over a heap and what was read of each part.
use Rattle.std.proofs.Common.{◌≡◌, ℕ, List, ◌++◌, refl, sym, ap, ap₂, subst, ◌∙◌, inl, inr}
use Rattle.hprof_values.specs.declared.ids.IdSize.{IdSize}
use Rattle.hprof_items.specs.FactValue.{FactValue}
use Rattle.hprof_stream.specs.declared.summary.PartSummary.{PartSummary}
use Rattle.hprof_questions.specs.declared.question.Question.{Question}
use Rattle.hprof_questions.specs.declared.question.Question.TheVariants as questions
use Rattle.hprof_questions.specs.declared.report.Kinds.TheVariants as these
use Rattle.hprof_questions.specs.declared.report.Node.TheVariants as that
use Rattle.hprof_questions.specs.declared.report.Report.{Report}
use Rattle.hprof_questions.specs.declared.report.Report.TheVariants as reports
use Rattle.hprof_questions.specs.Same.{IsSame, placed_question, placed_report}
use Rattle.hprof_ask.specs.HeapAnswers.{IsHeapAnswer, IsReply, IsReportReply, behind_reply}
use Rattle.hprof_ask.specs.OneReport.{no_report, one_report}

module _ (summaries : List PartSummary) (ids : IdSize) (facts : List FactValue) where
  one_report_reply : (report : Report) (one other : List ℕ) → IsReportReply summaries ids facts report one
      → IsReportReply summaries ids facts report other → one ≡ other
  one_report_reply report one other (inl is) (inl is_too) = one_report summaries ids facts report one other is is_too
  one_report_reply report one other (inl is) (inr none) = absurd (no_report summaries ids facts report one none.0 is)
  one_report_reply report one other (inr none) (inl is) = absurd (no_report summaries ids facts report other none.0 is)
  one_report_reply report one other (inr none) (inr none_too) = none.1 ∙ sym none_too.1

  one_reply : (question : Question) (one other : List ℕ) → IsReply summaries ids facts question one
      → IsReply summaries ids facts question other → one ≡ other
  one_reply questions.Nothing one other is is_too = is ∙ sym is_too
  one_reply questions.Help one other is is_too = is ∙ sym is_too
  one_reply questions.Quit one other is is_too = is ∙ sym is_too
  one_reply (questions.Report report) one other is is_too = one_report_reply report one other is is_too
  one_reply (questions.Misnamed fault) one other is is_too = is ∙ sym is_too
  one_reply questions.NotUnderstood one other is is_too = is ∙ sym is_too

  -- it does not matter where the bytes of a name lie
  placed_report_reply : (report : Report) (text : List ℕ) → IsReportReply summaries ids facts report text
      → IsReportReply summaries ids facts (placed_report report) text
  placed_report_reply (reports.Heap report) text is = is
  placed_report_reply (reports.Kind report (these.Of kind)) text is = is
  placed_report_reply (reports.Kind report (these.Named name)) text is = is
  placed_report_reply (reports.Node report (that.Identifier id)) text is = is
  placed_report_reply (reports.Node report (that.Named name)) text is = is

  placed_reply : (question : Question) (text : List ℕ) → IsReply summaries ids facts question text
      → IsReply summaries ids facts (placed_question question) text
  placed_reply questions.Nothing text is = is
  placed_reply questions.Help text is = is
  placed_reply questions.Quit text is = is
  placed_reply (questions.Report report) text is = placed_report_reply report text is
  placed_reply (questions.Misnamed fault) text is = is
  placed_reply questions.NotUnderstood text is = is

  one_same_reply : (question same : Question) (one other : List ℕ) → IsSame question same → IsReply summaries ids facts question one
      → IsReply summaries ids facts same other → one ≡ other
  one_same_reply question same one other are_same is is_too =
      one_reply (placed_question same) one other
      (subst (λ (q : Question). IsReply summaries ids facts q one) are_same (placed_reply question one is)) (placed_reply same other is_too)

  behind_same : (question same : Question) → IsSame question same → behind_reply question ≡ behind_reply same
  behind_same question same are_same = placed_behind question ∙ ap behind_reply are_same ∙ sym (placed_behind same) where
    placed_behind : (asked : Question) → behind_reply asked ≡ behind_reply (placed_question asked)
    placed_behind questions.Nothing = refl
    placed_behind questions.Help = refl
    placed_behind questions.Quit = refl
    placed_behind (questions.Report report) = refl
    placed_behind (questions.Misnamed fault) = refl
    placed_behind questions.NotUnderstood = refl

  pub one_heap_answer : (question same : Question) (one other : List ℕ) → IsSame question same
      → IsHeapAnswer summaries ids facts question one → IsHeapAnswer summaries ids facts same other → one ≡ other
  one_heap_answer question same one other are_same is is_too =
      is.is
      ∙ ap₂ (λ (reply behind : List ℕ). reply ++ behind)
      (one_same_reply question same is.reply is_too.reply are_same is.is_reply is_too.is_reply)
      (behind_same question same are_same)
      ∙ sym is_too.is
