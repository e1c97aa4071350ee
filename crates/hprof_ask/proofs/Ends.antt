-- How the writing of a report ends.
use Rattle.std.specs.Prelude.{⊤, Vec}
use Rattle.std.proofs.Common.{◌≡◌, inl, inr, ℕ, List, Option, Result, Ok, Err, refl, subst, ◌∙◌}
use Rattle.std.specs.declared.alloc.Global.{Global}
use Rattle.std.proofs.KnownBytes.{Appends-nil}
use Rattle.hprof_devices.specs.declared.health.Health.{Health}
use Rattle.hprof_devices.specs.declared.health.Health.TheVariants as healths
use Rattle.hprof_values.specs.declared.ids.IdSize.{IdSize}
use Rattle.hprof_items.specs.FactValue.{FactValue}
use Rattle.hprof_stream.specs.declared.summary.PartSummary.{PartSummary}
use Rattle.hprof_rows.specs.Conflict.{IsConsistent}
use Rattle.hprof_engine.specs.declared.heap_fault.HeapFault.{HeapFault}
use Rattle.hprof_engine.specs.declared.heap_fault.HeapFault.TheVariants as refusals
use Rattle.hprof_engine.specs.declared.product.ProductFault.{ProductFault}
use Rattle.hprof_engine.specs.declared.product.ProductFault.TheVariants as stops
use Rattle.hprof_engine.specs.Makes.{EndsWriting}
use Rattle.hprof_reports.specs.Check.{IsCheck}
use Rattle.hprof_lines.specs.Stopping.{LeavesTarget, WritesText}
use Rattle.hprof_questions.specs.declared.report.HeapReport.TheVariants as heaps
use Rattle.hprof_questions.specs.declared.report.Report.{Report}
use Rattle.hprof_questions.specs.declared.report.Report.TheVariants as reports
use Rattle.hprof_ask.specs.Report.{IsReport, RefusesReport}
use Rattle.hprof_ask.specs.SomeReport.{report_or_none}
use Rattle.hprof_ask.specs.Summarised.{Holds}

-- memory: whether writing takes memory
pub text_ends : {W : Type 0} (written : W → Option (List ℕ)) (well : W → Health) (IsText : List ℕ → Type 0)
    (Refuses : HeapFault → Type 0) (memory : Type 0) (before after : W) (r : Result (Unit {0}) ProductFault) (text : List ℕ)
    → IsText text → WritesText (written before) (written after) r text
    → LeavesTarget r (well after) → (r ≡ Err stops.OutOfMemory → memory) → EndsWriting written well IsText Refuses memory before after r
text_ends written well IsText Refuses memory before after (Ok done) text is writes health wants = (health, (text, is, writes))
text_ends written well IsText Refuses memory before after (Err (stops.Write fault)) text is front health wants =
    (health, (text, front.0, is, front.2))
text_ends written well IsText Refuses memory before after (Err stops.OutOfMemory) text is front health wants =
    (wants refl, health, inl (text, front.0, is, front.2))
text_ends written well IsText Refuses memory before after (Err (stops.Refused refusal)) text is front health wants = absurd health

-- what is said of one text is said of another, where each of the first is one of the others
pub ends_as : {W : Type 0} (written : W → Option (List ℕ)) (well : W → Health) (IsText IsOther : List ℕ → Type 0)
    (Refuses : HeapFault → Type 0) (memory : Type 0) (before after : W) (r : Result (Unit {0}) ProductFault)
    → ((text : List ℕ) → IsText text → IsOther text) → EndsWriting written well IsText Refuses memory before after r
    → EndsWriting written well IsOther Refuses memory before after r
ends_as written well IsText IsOther Refuses memory before after (Ok done) same (health, (text, is, writes)) =
    (health, (text, same text is, writes))
ends_as written well IsText IsOther Refuses memory before after (Err (stops.Write fault)) same (health, (text, count, is, front)) =
    (health, (text, count, same text is, front))
ends_as written well IsText IsOther Refuses memory before after (Err stops.OutOfMemory) same (wants, health, inl (text, count, is, front)) =
    (wants, health, inl (text, count, same text is, front))
ends_as written well IsText IsOther Refuses memory before after (Err stops.OutOfMemory) same (wants, health, inr refused) =
    (wants, health, inr refused)
ends_as written well IsText IsOther Refuses memory before after (Err (stops.Refused refusal)) same ends = ends

-- a report is of the summaries that are kept for it
pub of_kept : (report : Report) (kept : Vec PartSummary Global) (held summaries : List PartSummary) (ids : IdSize) (facts : List FactValue)
    (text : List ℕ) → held ≡ kept.items → Holds report kept summaries → IsReport held ids facts report text
    → IsReport summaries ids facts report text
of_kept (reports.Heap heaps.Check) kept held summaries ids facts text same holds is =
    subst (λ (those : List PartSummary). IsCheck those facts text) (same ∙ holds) is
of_kept other kept held summaries ids facts text same holds is = is

-- memory was wanted before the first byte of a report, which there is unless it is on a name that no class has
pub wanted : {W : Type 0} (written : W → Option (List ℕ)) (well : W → Health) (ids : IdSize) (facts : List FactValue) (report : Report)
    (summaries : List PartSummary) (target : W) → IsConsistent facts → well target ≡ healths.Well
    → EndsWriting written well (IsReport summaries ids facts report) (RefusesReport facts report) ⊤ target target (Err stops.OutOfMemory)
wanted written well ids facts report summaries target agree is_well = (
  tt,
  is_well,
  elim (report_or_none ids facts agree summaries report) [
    | inl it ↦ inl (it.0, 0, it.1, Appends-nil (written target))
    | inr none ↦ inr ((refusals.NoClass, none), refl)
  ],
)
