-- A report is one text.
use Rattle.std.proofs.Common.{◌≡◌, ℕ, List, [], ◌∷◌, subst}
use Rattle.hprof_values.specs.declared.ids.IdSize.{IdSize}
use Rattle.hprof_items.specs.FactValue.{FactValue}
use Rattle.hprof_stream.specs.declared.summary.PartSummary.{PartSummary}
use Rattle.hprof_reports.specs.OneCheck.{one_check}
use Rattle.hprof_reports.specs.OneHistogramText.{one_histogram_text}
use Rattle.hprof_reports.specs.OneObject.{one_object}
use Rattle.hprof_reports.specs.OnePath.{one_path_text}
use Rattle.hprof_reports.specs.OneRefs.{one_refs}
use Rattle.hprof_reports.specs.OneClasses.{one_classes_text}
use Rattle.hprof_lines.specs.OneObjects.{one_objects_text}
use Rattle.hprof_reports.specs.OneText.{one_text_line}
use Rattle.hprof_show.proofs.OneReport.{one_show_text}
use Rattle.hprof_holders.proofs.SomeThreads.{text_once as threads_once}
use Rattle.hprof_holders.proofs.SomeWho.{who_once}
use Rattle.hprof_histogram.specs.declared.row.Kind.{Kind}
use Rattle.hprof_suspects.proofs.SomeSuspectsText.{suspects_once}
use Rattle.hprof_by_label.proofs.OneRetained.{retained_once}
use Rattle.hprof_keeps.specs.Chosen.{HasObjectOfKind}
use Rattle.hprof_keeps.proofs.OneBiggest.{biggest_once}
use Rattle.hprof_keeps.proofs.OneKeeps.{keeps_once}
use Rattle.hprof_why.proofs.OneText.{why_once}
use Rattle.hprof_meaning.specs.MeantClasses.{IsMeantClass, IsMeantDump}
use Rattle.hprof_meaning.proofs.MeantLists.{one_all}
use Rattle.hprof_meaning.proofs.OneTexts.{one_named_text, one_objects_text as one_objects_of_classes}
use Rattle.hprof_questions.specs.declared.report.HeapReport.{HeapReport}
use Rattle.hprof_questions.specs.declared.report.HeapReport.TheVariants as heaps
use Rattle.hprof_questions.specs.declared.report.KindReport.{KindReport}
use Rattle.hprof_questions.specs.declared.report.KindReport.TheVariants as kinds
use Rattle.hprof_questions.specs.declared.report.NodeReport.{NodeReport}
use Rattle.hprof_questions.specs.declared.report.NodeReport.TheVariants as nodes
use Rattle.hprof_questions.specs.declared.report.Kinds.TheVariants as these
use Rattle.hprof_questions.specs.declared.report.Node.TheVariants as that
use Rattle.hprof_questions.specs.declared.report.Report.{Report}
use Rattle.hprof_questions.specs.declared.report.Report.TheVariants as reports
use Rattle.hprof_ask.specs.Report.{IsHeapReport, IsKindReport, IsNamedKind, IsNamedReport, IsNodeReport, IsOfClasses, IsReport}
use Rattle.hprof_ask.specs.Report.{IsReportOfClasses}
use Rattle.hprof_ask.specs.Report.{IsReportOfDumps, LacksClass}

module _ (summaries : List PartSummary) (ids : IdSize) (facts : List FactValue) where
  one_heap_report : (report : HeapReport) (one other : List ℕ) → IsHeapReport summaries ids facts report one
      → IsHeapReport summaries ids facts report other → one ≡ other
  one_heap_report heaps.Check = one_check summaries facts
  one_heap_report heaps.Histogram = one_histogram_text ids facts
  one_heap_report heaps.Classes = one_classes_text ids facts
  one_heap_report heaps.Threads = λ one other are too. threads_once facts are.agree ids one other are too
  one_heap_report heaps.Suspects = suspects_once ids facts
  one_heap_report heaps.Retained = retained_once ids facts

  one_node_report : (report : NodeReport) (id : ℕ) (one other : List ℕ) → IsNodeReport ids facts report id one
      → IsNodeReport ids facts report id other → one ≡ other
  one_node_report nodes.Show id = one_show_text ids facts id
  one_node_report nodes.Why id = why_once ids facts id
  one_node_report nodes.Who id = λ one other are too. who_once ids facts are.agree id one other are too
  one_node_report nodes.Keeps id = λ one other are too. keeps_once ids facts are.agree id one other are too
  one_node_report nodes.Text id = one_text_line ids facts id
  one_node_report nodes.Object id = one_object ids facts id
  one_node_report nodes.Refs id = one_refs ids facts id
  one_node_report nodes.Path id = one_path_text ids facts id

  one_kind_report : (report : KindReport) (kind : Kind) (one other : List ℕ) → IsKindReport ids facts report kind one
      → IsKindReport ids facts report kind other → one ≡ other
  one_kind_report kinds.Biggest kind = λ one other are too. biggest_once ids facts are.agree (HasObjectOfKind facts kind) one other are too
  one_kind_report kinds.Objects kind = one_objects_text ids facts kind

  one_report_of_classes : (report : KindReport) (name classes : List ℕ) (one other : List ℕ)
      → IsReportOfClasses ids facts report name classes one → IsReportOfClasses ids facts report name classes other → one ≡ other
  one_report_of_classes kinds.Biggest name classes = λ one other are too.
      biggest_once ids facts are.agree (IsOfClasses facts name classes) one other are too
  one_report_of_classes kinds.Objects name classes = one_objects_of_classes ids facts classes

  one_named_kind : (report : KindReport) (name : List ℕ) (one other : List ℕ) → IsNamedKind ids facts report name one
      → IsNamedKind ids facts report name other → one ≡ other
  one_named_kind report name one other is is_too =
      one_report_of_classes report name is_too.classes one other
      (subst (λ (classes : List ℕ). IsReportOfClasses ids facts report name classes one)
      (one_all (IsMeantClass facts name) is.classes is_too.classes is.are_classes is_too.are_classes) is.is) is_too.is

  one_report_of_dumps : (report : NodeReport) (dumps : List ℕ) (one other : List ℕ) → IsReportOfDumps ids facts report dumps one
      → IsReportOfDumps ids facts report dumps other → one ≡ other
  one_report_of_dumps report [] one other is is_too = absurd is
  one_report_of_dumps report (id ∷ []) one other is is_too = one_node_report report id one other is is_too
  one_report_of_dumps report (id ∷ second ∷ more) one other is is_too =
      one_named_text ids facts (id ∷ second ∷ more) one other is is_too

  one_named_report : (report : NodeReport) (name : List ℕ) (one other : List ℕ) → IsNamedReport ids facts report name one
      → IsNamedReport ids facts report name other → one ≡ other
  one_named_report report name one other is is_too =
      one_report_of_dumps report is_too.dumps one other
      (subst (λ (dumps : List ℕ). IsReportOfDumps ids facts report dumps one)
      (one_all (IsMeantDump facts name) is.dumps is_too.dumps is.are_dumps is_too.are_dumps) is.is) is_too.is

  pub one_report : (report : Report) (one other : List ℕ) → IsReport summaries ids facts report one
      → IsReport summaries ids facts report other → one ≡ other
  one_report (reports.Heap report) = one_heap_report report
  one_report (reports.Kind report (these.Of kind)) = one_kind_report report kind
  one_report (reports.Kind report (these.Named name)) = one_named_kind report name.now
  one_report (reports.Node report (that.Identifier id)) = one_node_report report id
  one_report (reports.Node report (that.Named name)) = one_named_report report name.now

  -- and none of a name that no class has
  pub no_report : (report : Report) (text : List ℕ) → LacksClass facts report → IsReport summaries ids facts report text → ⊥
  no_report (reports.Kind report (these.Named name)) text lacks is =
      lacks.1 (is.there (one_all (IsMeantClass facts name.now) is.classes [] is.are_classes lacks.0))
  no_report (reports.Node report (that.Named name)) text lacks is =
      subst (λ (dumps : List ℕ). IsReportOfDumps ids facts report dumps text)
      (one_all (IsMeantDump facts name.now) is.dumps [] is.are_dumps lacks) is.is
  no_report (reports.Heap report) text lacks is = lacks
  no_report (reports.Kind report (these.Of kind)) text lacks is = lacks
  no_report (reports.Node report (that.Identifier id)) text lacks is = lacks
