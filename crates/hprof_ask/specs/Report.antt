-- The reports, and the text of each.
use Rattle.std.specs.Prelude.{◌≡◌, ◌⊎◌, ℕ, ◌<◌, List, [], ◌∷◌, codes, ⊤}
use Rattle.hprof_values.specs.declared.ids.IdSize.{IdSize}
use Rattle.hprof_items.specs.FactValue.{FactValue}
use Rattle.hprof_stream.specs.declared.summary.PartSummary.{PartSummary}
use Rattle.hprof_rows.specs.HeapValue.{HeapValue}
use Rattle.hprof_engine.specs.declared.heap_fault.HeapFault.{HeapFault}
use Rattle.hprof_engine.specs.declared.heap_fault.HeapFault.TheVariants as refusals
use Rattle.hprof_engine.specs.Makes.{Making, making_of}
use Rattle.hprof_naming.specs.MeantLabel.{Means}
use Rattle.hprof_meaning.specs.MeantClasses.{AreMeantClasses, AreMeantDumps}
use Rattle.hprof_meaning.specs.NamedText.{IsNamedText}
use Rattle.hprof_meaning.specs.ObjectsOfText.{IsObjectsOfText}
use Rattle.hprof_histogram.specs.declared.row.Kind.{Kind}
use Rattle.hprof_reports.specs.Check.{IsCheck}
use Rattle.hprof_reports.specs.HistogramText.{IsHistogramText}
use Rattle.hprof_reports.specs.ClassesText.{IsClassesText}
use Rattle.hprof_lines.specs.ObjectsText.{IsObjectsText}
use Rattle.hprof_reports.specs.ObjectText.{IsObjectText}
use Rattle.hprof_reports.specs.PathText.{IsPathText}
use Rattle.hprof_reports.specs.RefsText.{IsRefsText}
use Rattle.hprof_reports.specs.TextReport.{IsTextLine}
use Rattle.hprof_show.specs.ShowText.{IsShowText}
use Rattle.hprof_holders.specs.ThreadsText.{IsThreadsText}
use Rattle.hprof_holders.specs.WhoText.{IsWhoText}
use Rattle.hprof_keeps.specs.BiggestText.{IsBiggestText}
use Rattle.hprof_keeps.specs.Chosen.{HasObjectOfClasses, HasObjectOfKind, IsClassAlone}
use Rattle.hprof_keeps.specs.KeepsText.{IsKeepsText}
use Rattle.hprof_by_label.specs.RetainedText.{IsRetainedText}
use Rattle.hprof_suspects.specs.SuspectsText.{IsSuspectsText}
use Rattle.hprof_why.specs.WhyText.{IsWhyText}
use Rattle.hprof_questions.specs.declared.report.HeapReport.{HeapReport}
use Rattle.hprof_questions.specs.declared.report.HeapReport.TheVariants as heaps
use Rattle.hprof_questions.specs.declared.report.KindReport.{KindReport}
use Rattle.hprof_questions.specs.declared.report.KindReport.TheVariants as kinds
use Rattle.hprof_questions.specs.declared.report.NodeReport.{NodeReport}
use Rattle.hprof_questions.specs.declared.report.NodeReport.TheVariants as nodes
use Rattle.hprof_questions.specs.declared.report.Kinds.TheVariants as these
use Rattle.hprof_questions.specs.declared.report.Node.TheVariants as that
use Rattle.hprof_questions.specs.declared.report.Report.{Report}
use Rattle.hprof_questions.specs.declared.report.Report.TheVariants as reports

-- the text is the report on parts with these summaries, or on a heap of these facts
abbrev pub IsHeapReport : List PartSummary → IdSize → List FactValue → HeapReport → List ℕ → Type 0
IsHeapReport summaries ids facts heaps.Check text = IsCheck summaries facts text
IsHeapReport summaries ids facts heaps.Histogram text = IsHistogramText ids facts text
IsHeapReport summaries ids facts heaps.Classes text = IsClassesText ids facts text
IsHeapReport summaries ids facts heaps.Threads text = IsThreadsText ids facts text
IsHeapReport summaries ids facts heaps.Suspects text = IsSuspectsText ids facts text
IsHeapReport summaries ids facts heaps.Retained text = IsRetainedText ids facts text

-- it is the report on the objects of a class or a type among these facts
abbrev pub IsKindReport : IdSize → List FactValue → KindReport → Kind → List ℕ → Type 0
IsKindReport ids facts kinds.Biggest kind text = IsBiggestText ids facts (HasObjectOfKind facts kind) text
IsKindReport ids facts kinds.Objects kind text = IsObjectsText ids facts kind text

-- it is the report on an identifier among these facts
abbrev pub IsNodeReport : IdSize → List FactValue → NodeReport → ℕ → List ℕ → Type 0
IsNodeReport ids facts nodes.Show id text = IsShowText ids facts id text
IsNodeReport ids facts nodes.Why id text = IsWhyText ids facts id text
IsNodeReport ids facts nodes.Who id text = IsWhoText ids facts id text
IsNodeReport ids facts nodes.Keeps id text = IsKeepsText ids facts id text
IsNodeReport ids facts nodes.Text id text = IsTextLine ids facts id text
IsNodeReport ids facts nodes.Object id text = IsObjectText ids facts id text
IsNodeReport ids facts nodes.Refs id text = IsRefsText ids facts id text
IsNodeReport ids facts nodes.Path id text = IsPathText ids facts id text

-- ---- names

-- the name is that of the class of all classes, which every heap has
abbrev pub NamesClasses : List ℕ → Type 0
NamesClasses name = Means name (codes "java/lang/Class")

-- the node is an object of one of the classes; objects of the class of all classes are also the classes that have no object dump
abbrev pub IsOfClasses : List FactValue → List ℕ → List ℕ → ℕ → Type 0
IsOfClasses facts name classes node = HasObjectOfClasses facts classes node ⊎ (NamesClasses name × IsClassAlone facts node)

-- it is the report on the objects of these classes, which the name means
abbrev pub IsReportOfClasses : IdSize → List FactValue → KindReport → List ℕ → List ℕ → List ℕ → Type 0
IsReportOfClasses ids facts kinds.Biggest name classes text = IsBiggestText ids facts (IsOfClasses facts name classes) text
IsReportOfClasses ids facts kinds.Objects name classes text = IsObjectsOfText ids facts classes text

-- it is the report on all classes that the name means, of which there are some, or on the class of all classes
pub record IsNamedKind (ids : IdSize) (facts : List FactValue) (report : KindReport) (name text : List ℕ) : Type 0 where
  pub classes : List ℕ
  pub are_classes : AreMeantClasses facts name classes
  pub there : classes ≡ [] → NamesClasses name
  pub is : IsReportOfClasses ids facts report name classes text

-- the name is that of these class dumps: of one it is the report on this one, of more it tells which they are
abbrev pub IsReportOfDumps : IdSize → List FactValue → NodeReport → List ℕ → List ℕ → Type 0
IsReportOfDumps ids facts report [] text = ⊥
IsReportOfDumps ids facts report (id ∷ []) text = IsNodeReport ids facts report id text
IsReportOfDumps ids facts report dumps text = IsNamedText ids facts dumps text

-- it is the report on the class dumps that the name means
pub record IsNamedReport (ids : IdSize) (facts : List FactValue) (report : NodeReport) (name text : List ℕ) : Type 0 where
  pub dumps : List ℕ
  pub are_dumps : AreMeantDumps facts name dumps
  pub is : IsReportOfDumps ids facts report dumps text

-- ---- all reports

-- it is the report on parts with these summaries and on a heap of these facts
abbrev pub IsReport : List PartSummary → IdSize → List FactValue → Report → List ℕ → Type 0
IsReport summaries ids facts (reports.Heap report) text = IsHeapReport summaries ids facts report text
IsReport summaries ids facts (reports.Kind report (these.Of kind)) text = IsKindReport ids facts report kind text
IsReport summaries ids facts (reports.Kind report (these.Named name)) text = IsNamedKind ids facts report name.now text
IsReport summaries ids facts (reports.Node report (that.Identifier id)) text = IsNodeReport ids facts report id text
IsReport summaries ids facts (reports.Node report (that.Named name)) text = IsNamedReport ids facts report name.now text

-- the report is on a name that no class of these facts has
abbrev pub LacksClass : List FactValue → Report → Type 0
LacksClass facts (reports.Kind report (these.Named name)) = AreMeantClasses facts name.now [] × ¬ (NamesClasses name.now)
LacksClass facts (reports.Node report (that.Named name)) = AreMeantDumps facts name.now []
LacksClass facts other = ⊥

-- the report on these facts is refused for that reason
abbrev pub RefusesReport : List FactValue → Report → HeapFault → Type 0
RefusesReport facts report refusals.DumpTooLong = ⊥
RefusesReport facts report refusals.NoClass = LacksClass facts report

-- the same of a heap with its size of identifiers
abbrev pub IsReportText : Report → List PartSummary → HeapValue → List ℕ → Type 0
IsReportText report summaries heap text = IsReport summaries heap.ids heap.facts report text

-- before any of so many parts is read, `check` takes memory for their summaries, and no other report takes any
abbrev pub TakesRoom : Report → ℕ → Type 0
TakesRoom (reports.Heap heaps.Check) parts = 0 < parts
TakesRoom other parts = ⊥

-- when all parts are read, `check` takes no memory, and the others do
abbrev pub TakesMemory : Report → Type 0
TakesMemory (reports.Heap heaps.Check) = ⊥
TakesMemory other = ⊤

-- what a report makes of parts
abbrev pub report_making : Report → Making
report_making report = making_of (IsReportText report) (λ refusal heap. RefusesReport heap.facts report refusal) (TakesRoom report)
    (TakesMemory report)
