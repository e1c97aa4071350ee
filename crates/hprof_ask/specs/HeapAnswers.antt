-- Answers over a heap, and over what was read of each part.
use Rattle.std.specs.Prelude.{◌≡◌, ◌⊎◌, ℕ, List, [], ◌++◌, codes}
use Rattle.hprof_values.specs.declared.ids.IdSize.{IdSize}
use Rattle.hprof_items.specs.FactValue.{FactValue}
use Rattle.hprof_stream.specs.declared.summary.PartSummary.{PartSummary}
use Rattle.hprof_questions.specs.declared.question.Question.{Question}
use Rattle.hprof_questions.specs.declared.question.Question.TheVariants as questions
use Rattle.hprof_questions.specs.declared.report.Report.{Report}
use Rattle.hprof_questions.specs.declared.subject.Misnamed.{Misnamed}
use Rattle.hprof_questions.specs.declared.subject.Misnamed.TheVariants as misnamed
use Rattle.hprof_ask.specs.Report.{IsReport, LacksClass}
use Rattle.hprof_questions.specs.Words.{help_text}

-- what is told of a text that does not follow a word
abbrev pub misnamed_text : Misnamed → List ℕ
misnamed_text misnamed.NoIdentifier = codes "not an identifier"

-- the reply to a question for a report: its text, or that no class has the name that it is on
abbrev pub IsReportReply : List PartSummary → IdSize → List FactValue → Report → List ℕ → Type 0
IsReportReply summaries ids facts report text =
    IsReport summaries ids facts report text ⊎ (LacksClass facts report × (text ≡ codes "no class has this name\n"))

-- the reply to a question: a report, or a line
abbrev pub IsReply : List PartSummary → IdSize → List FactValue → Question → List ℕ → Type 0
IsReply summaries ids facts questions.Nothing text = text ≡ []
IsReply summaries ids facts questions.Help text = text ≡ help_text
IsReply summaries ids facts questions.Quit text = text ≡ []
IsReply summaries ids facts (questions.Report report) text = IsReportReply summaries ids facts report text
IsReply summaries ids facts (questions.Misnamed fault) text = text ≡ misnamed_text fault ++ codes "\n"
IsReply summaries ids facts questions.NotUnderstood text = text ≡ codes "not understood\n"

-- the reply where no report is written: help, or a line; to a question for a report, that no class has the name that it is on
abbrev pub reply_without_report : Question → List ℕ
reply_without_report questions.Nothing = []
reply_without_report questions.Help = help_text
reply_without_report questions.Quit = []
reply_without_report (questions.Report report) = codes "no class has this name\n"
reply_without_report (questions.Misnamed fault) = misnamed_text fault ++ codes "\n"
reply_without_report questions.NotUnderstood = codes "not understood\n"

-- what stands behind the reply: an empty line, but nothing where the dialogue ends
abbrev pub behind_reply : Question → List ℕ
behind_reply questions.Quit = []
behind_reply other = codes "\n"

-- the answer: the reply, and that behind it
pub record IsHeapAnswer (summaries : List PartSummary) (ids : IdSize) (facts : List FactValue) (question : Question)
    (text : List ℕ) : Type 0 where
  pub reply : List ℕ
  pub is_reply : IsReply summaries ids facts question reply
  pub is : text ≡ reply ++ behind_reply question
