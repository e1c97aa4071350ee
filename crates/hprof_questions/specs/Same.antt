-- Questions that are the same but for where in memory the bytes of a name lie.
use Rattle.std.specs.Prelude.{◌≡◌, ℕ, List}
use Rattle.std.specs.Borrow.{Bor}
use Rattle.hprof_questions.specs.declared.question.Question.{Question}
use Rattle.hprof_questions.specs.declared.question.Question.TheVariants as questions
use Rattle.hprof_questions.specs.declared.report.Kinds.TheVariants as these
use Rattle.hprof_questions.specs.declared.report.Node.TheVariants as that
use Rattle.hprof_questions.specs.declared.report.Report.{Report}
use Rattle.hprof_questions.specs.declared.report.Report.TheVariants as reports

-- the same bytes, at one place for all
abbrev pub placed : Bor (List ℕ) → Bor (List ℕ)
placed name = record { ref_ptr = (0, 0); now = name.now }

abbrev pub placed_report : Report → Report
placed_report (reports.Kind report (these.Named name)) = reports.Kind report (these.Named (placed name))
placed_report (reports.Node report (that.Named name)) = reports.Node report (that.Named (placed name))
placed_report other = other

abbrev pub placed_question : Question → Question
placed_question (questions.Report report) = questions.Report (placed_report report)
placed_question other = other

-- with all names at one place they are one
abbrev pub IsSame : Question → Question → Type 0
IsSame question other = placed_question question ≡ placed_question other
