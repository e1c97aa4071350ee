-- What a report on objects in memory makes of parts is what it makes of them whether their objects are read again or not.
use Rattle.std.proofs.Common.{◌≡◌, List, Option, ℕ}
use Rattle.std.specs.Prelude.{⊤}
use Rattle.hprof_devices.specs.declared.health.Health.{Health}
use Rattle.hprof_stream.specs.declared.limits.Limits.{Limits}
use Rattle.hprof_engine.specs.declared.tool_fault.ToolFault.{ToolFault}
use Rattle.hprof_engine.specs.Joining.{none_known}
use Rattle.hprof_engine.specs.Makes.{IsMadeOf, Makes}
use Rattle.hprof_stored.specs.Storing.{HaveObject}
use Rattle.hprof_questions.specs.declared.report.Node.{Node}
use Rattle.hprof_questions.specs.declared.report.Node.TheVariants as that
use Rattle.hprof_questions.specs.declared.report.NodeReport.{NodeReport}
use Rattle.hprof_questions.specs.declared.report.Report.{Report}
use Rattle.hprof_questions.specs.declared.report.Report.TheVariants as reports
use Rattle.hprof_ask.specs.Report.{IsReportText, RefusesReport, TakesMemory, TakesRoom, report_making}
use Rattle.hprof_tool.specs.Again.{report_of_parts}
use Rattle.hprof_tool.proofs.Weaker.{weaker}

-- a report on an identifier, by its parts
pub node_report : (report : Report) (kind known : NodeReport) (node : Node) (id : ℕ) → report ≡ reports.Node kind node → kind ≡ known
    → node ≡ that.Identifier id → report ≡ reports.Node known (that.Identifier id)
node_report report kind known node id is is_kind is_node = cc

module _ {R W : Type 0} (left : R → Option (List ℕ)) (health : R → Health) (pulls : R → ℕ) (limits : Limits)
    (written : W → Option (List ℕ)) (well : W → Health) (old new : List R) (before after : W) (ended : Option ToolFault) where
  pub heap_makes : (report : Report) → Makes left health pulls written well limits (report_making report) old new before after ended
      → Makes left health pulls written well limits (report_of_parts report) old new before after ended
  heap_makes report makes =
      weaker left health pulls none_known HaveObject (λ facts none. absurd none) limits
      (IsMadeOf (IsReportText report)) (λ refusal heap. RefusesReport heap.facts report refusal) (TakesRoom report)
      (λ count. ⊤) (TakesMemory report) ⊤ ⊥ ⊤
      (λ count takes. tt) (λ takes. tt) (λ none. tt) written well old new before after ended makes
