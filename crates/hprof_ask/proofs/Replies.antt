-- What is written of the reply to a question for a report.
use Rattle.std.proofs.Common.{◌≡◌, inl, inr, ℕ, zero, suc, ◌≤◌, List, [], ◌∷◌, length, take, Option, Err, codes, refl, sym, ap, subst}
use Rattle.std.proofs.Common.{arith}
use Rattle.std.specs.Io.KnownBytes.{Appends}
use Rattle.std.proofs.KnownBytes.{Appends-nil}
use Rattle.hprof_devices.specs.declared.health.Health.{Health}
use Rattle.hprof_values.specs.declared.ids.IdSize.{IdSize}
use Rattle.hprof_items.specs.FactValue.{FactValue}
use Rattle.hprof_stream.specs.declared.summary.PartSummary.{PartSummary}
use Rattle.hprof_engine.specs.declared.heap_fault.HeapFault.{HeapFault}
use Rattle.hprof_engine.specs.declared.heap_fault.HeapFault.TheVariants as refusals
use Rattle.hprof_engine.specs.declared.product.ProductFault.{ProductFault}
use Rattle.hprof_engine.specs.declared.product.ProductFault.TheVariants as stops
use Rattle.hprof_engine.specs.Makes.{EndsWriting}
use Rattle.hprof_lines.specs.Stopping.{LeavesTarget, WritesText}
use Rattle.hprof_questions.specs.declared.report.Report.{Report}
use Rattle.hprof_ask.specs.HeapAnswers.{IsReportReply}
use Rattle.hprof_ask.specs.Report.{IsReport, RefusesReport, TakesMemory}

-- the first bytes of a list are no more than it has
within : (count : ℕ) (bytes : List ℕ) → (n : ℕ) × (n ≤ length bytes) × (take count bytes ≡ take n bytes)
within zero bytes = (0, omega arith, refl)
within (suc count) [] = (0, omega arith, refl)
within (suc count) (byte ∷ bytes) =
    let it = within count bytes in (suc it.0, omega (arith, it.1), ap (λ (l : List ℕ). byte ∷ l) it.2)

module _ {W : Type 0} (written : W → Option (List ℕ)) (well : W → Health) (summaries : List PartSummary) (ids : IdSize)
    (facts : List FactValue)
    (report : Report) (before after : W) where
  front : (count : ℕ) (text : List ℕ) → Appends (written before) (written after) (take count text)
      → (n : ℕ) × (n ≤ length text) × Appends (written before) (written after) (take n text)
  front count text appends =
      let it = within count text in (it.0, it.1, subst (Appends (written before) (written after)) it.2 appends)

  -- nothing was written
  none : (refusal : HeapFault) → RefusesReport facts report refusal → after ≡ before
      → (text : List ℕ) × IsReportReply summaries ids facts report text
      × ((n : ℕ) × (n ≤ length text) × Appends (written before) (written after) (take n text))
  none refusals.DumpTooLong refuses same = absurd refuses
  none refusals.NoClass lacks same = (
    codes "no class has this name\n",
    inr (lacks, refl),
    (0, omega arith, subst (λ (w : W). Appends (written before) (written w) []) (sym same) (Appends-nil (written before))),
  )

  pub stopped : (stop : ProductFault) → ((refusal : HeapFault) → stop ≡ stops.Refused refusal → ⊥)
      → EndsWriting written well (IsReport summaries ids facts report) (RefusesReport facts report) (TakesMemory report) before after
      (Err stop)
      → ((text : List ℕ) × IsReportReply summaries ids facts report text
      × WritesText {A = Unit {0}} (written before) (written after) (Err stop) text) × LeavesTarget {A = Unit {0}} (Err stop) (well after)
  stopped (stops.Write fault) unrefused (health, (text, count, is, appends)) = ((text, inl is, front count text appends), health)
  stopped stops.OutOfMemory unrefused (wants, health, inl (text, count, is, appends)) = ((text, inl is, front count text appends), health)
  stopped stops.OutOfMemory unrefused (wants, health, inr ((refusal, refuses), same)) = (none refusal refuses same, health)
  stopped (stops.Refused refusal) unrefused ends = absurd (unrefused refusal refl)
