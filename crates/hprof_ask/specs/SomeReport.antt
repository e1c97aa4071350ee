-- A report of facts that agree is there.
use Rattle.std.specs.Prelude.{bytes_eq, map}
use Rattle.std.proofs.Common.{◌≡◌, ◌⊎◌, ◌↔◌, inl, inr, ℕ, Bool, true, false, List, [], ◌∷◌, codes, IsTrue, refl}
use Rattle.std.proofs.lemmas.Bool.{cases_Bool}
use Rattle.std.proofs.lemmas.Bool.Decides.{not_from_Decides}
use Rattle.std.proofs.lemmas.Slice.Eq.{bytes_eq-Decides}
use Rattle.hprof_values.specs.declared.ids.IdSize.{IdSize}
use Rattle.hprof_items.specs.FactValue.{FactValue}
use Rattle.hprof_stream.specs.declared.summary.PartSummary.{PartSummary}
use Rattle.hprof_rows.specs.Conflict.{IsConsistent}
use Rattle.hprof_layouts.proofs.FieldAnswers.{fields_exist}
use Rattle.hprof_histogram.specs.declared.row.Kind.{Kind}
use Rattle.hprof_histogram.proofs.ObjectOrder.{some_list}
use Rattle.hprof_histogram.proofs.SomeHistogram.{at_least_one}
use Rattle.hprof_reach.proofs.SomeReach.{some_distance, some_path}
use Rattle.hprof_naming.proofs.Namings.{naming_exists}
use Rattle.hprof_reports.specs.HistogramText.{IsHistogramText, rows_text}
use Rattle.hprof_lines.specs.Line.{text_of_lines}
use Rattle.hprof_reports.specs.ObjectText.{IsObjectText, found_text}
use Rattle.hprof_reports.specs.PathText.{IsPathText, reached_text}
use Rattle.hprof_reports.specs.RefsText.{IsRefsText, edge_line}
use Rattle.hprof_naming.proofs.Lookups.{class_exists, object_exists}
use Rattle.hprof_naming.proofs.OneText.{text_exists}
use Rattle.hprof_reports.specs.ClassesText.{IsClassesText, classes_text}
use Rattle.hprof_lines.specs.ObjectsText.{IsObjectsText, objects_text}
use Rattle.hprof_reports.specs.TextReport.{IsTextLine, text_line}
use Rattle.hprof_reports.proofs.ClassLists.{some_dumps}
use Rattle.hprof_show.proofs.OneReport.{some_show}
use Rattle.hprof_holders.proofs.SomeThreads.{text_exists as some_threads}
use Rattle.hprof_holders.proofs.SomeWho.{who_exists}
use Rattle.hprof_suspects.proofs.SomeSuspectsText.{suspects_exist}
use Rattle.hprof_by_label.proofs.SomeRetained.{retained_exists}
use Rattle.hprof_keeps.specs.BiggestText.{IsBiggestText}
use Rattle.hprof_keeps.specs.declared.choice.Choice.TheVariants as choices
use Rattle.hprof_keeps.proofs.SomeBiggest.{chosen_exist}
use Rattle.hprof_keeps.proofs.SomeKeeps.{keeps_exists}
use Rattle.hprof_why.proofs.SomeText.{why_exists}
use Rattle.hprof_naming.specs.MeantLabel.{meant_label, slashed}
use Rattle.hprof_meaning.specs.MeantClasses.{AreMeantClasses, AreMeantDumps}
use Rattle.hprof_meaning.proofs.OneTexts.{some_named_text, some_objects_text}
use Rattle.hprof_meaning.proofs.SomeLists.{some_classes as some_classes_named, some_dumps as some_dumps_named}
use Rattle.hprof_questions.specs.declared.report.HeapReport.{HeapReport}
use Rattle.hprof_questions.specs.declared.report.HeapReport.TheVariants as heaps
use Rattle.hprof_questions.specs.declared.report.KindReport.{KindReport}
use Rattle.hprof_questions.specs.declared.report.KindReport.TheVariants as kinds
use Rattle.hprof_questions.specs.declared.report.NodeReport.{NodeReport}
use Rattle.hprof_questions.specs.declared.report.NodeReport.TheVariants as nodes
use Rattle.hprof_questions.specs.declared.report.Kinds.TheVariants as these
use Rattle.hprof_questions.specs.declared.report.Node.TheVariants as that
use Rattle.hprof_questions.specs.declared.report.Report.{Report}
use Rattle.hprof_questions.specs.declared.report.Report.TheVariants as reports
use Rattle.hprof_ask.specs.Report.{IsHeapReport, IsKindReport, IsNamedKind, IsNamedReport, IsNodeReport, IsOfClasses, IsReport}
use Rattle.hprof_ask.specs.Report.{IsReportOfClasses, LacksClass, NamesClasses}
use Rattle.hprof_ask.specs.OfName.{biggest_of_name}
use Rattle.hprof_ask.specs.SomeCheck.{some_check}
use Rattle.hprof_holders.specs.SomeReferrers.{some_referrers}

-- two lists of bytes are one, or two
same_bytes : (one other : List ℕ) → (one ≡ other) ⊎ ¬ (one ≡ other)
same_bytes one other = elim (cases_Bool (bytes_eq one other)) [
  | inl same ↦ inl ((bytes_eq-Decides one other).0 same)
  | inr apart ↦ inr (not_from_Decides (bytes_eq one other) (bytes_eq-Decides one other) apart)
]

module _ (ids : IdSize) (facts : List FactValue) (agree : IsConsistent facts) where
  some_histogram : (text : List ℕ) × IsHistogramText ids facts text
  some_histogram =
      let naming = naming_exists facts in
      let rows = at_least_one ids facts in (
        rows_text naming.0 rows.0,
        record { agree = agree; naming = naming.0; is_naming = naming.1; rows = rows.0; are_rows = rows.1; is = refl },
      )

  some_object : (id : ℕ) → (text : List ℕ) × IsObjectText ids facts id text
  some_object id =
      let naming = naming_exists facts in
      let class = class_exists facts id in
      let object = object_exists facts id in
      let fields = fields_exist ids facts id in (
        found_text naming.0 ids id fields.0 class.0 object.0,
        record {
          agree = agree;
          naming = naming.0;
          is_naming = naming.1;
          class = class.0;
          class_found = class.1;
          object = object.0;
          object_found = object.1;
          fields = fields.0;
          are_fields = fields.1;
          is = refl;
        },
      )

  some_refs : (id : ℕ) → (text : List ℕ) × IsRefsText ids facts id text
  some_refs id =
      let edges = some_referrers ids facts agree id in
      (text_of_lines (map edge_line edges.0), record { edges = edges.0; are_referrers = edges.1; is = refl })

  some_path_text : (id : ℕ) → (text : List ℕ) × IsPathText ids facts id text
  some_path_text id =
      let distance = some_distance ids facts agree id in
      let path = some_path ids facts agree id in (
        reached_text distance.0 path.0,
        record { distance = distance.0; is_distance = distance.1; path = path.0; is_path = path.1; is = refl },
      )

  some_classes : (text : List ℕ) × IsClassesText ids facts text
  some_classes =
      let naming = naming_exists facts in
      let dumps = some_dumps facts agree in (
        classes_text naming.0 ids facts dumps.0,
        record { agree = agree; naming = naming.0; is_naming = naming.1; dumps = dumps.0; are_dumps = dumps.1; is = refl },
      )

  some_objects : (kind : Kind) → (text : List ℕ) × IsObjectsText ids facts kind text
  some_objects kind =
      let objects = some_list ids facts kind in
      (objects_text objects.0, record { objects = objects.0; are_objects = objects.1; is = refl })

  some_text : (id : ℕ) → (text : List ℕ) × IsTextLine ids facts id text
  some_text id =
      let text = text_exists ids facts id in
      (text_line id text.0, record { agree = agree; text = text.0; is_text = text.1; is = refl })

  pub some_heap_report : (summaries : List PartSummary) (report : HeapReport) → (text : List ℕ)
      × IsHeapReport summaries ids facts report text
  some_heap_report summaries heaps.Check = some_check summaries facts
  some_heap_report summaries heaps.Histogram = some_histogram
  some_heap_report summaries heaps.Classes = some_classes
  some_heap_report summaries heaps.Threads = some_threads facts agree ids
  some_heap_report summaries heaps.Suspects = suspects_exist ids facts agree
  some_heap_report summaries heaps.Retained = retained_exists ids facts agree

  some_kind_report : (report : KindReport) (kind : Kind) → (text : List ℕ) × IsKindReport ids facts report kind text
  some_kind_report kinds.Biggest kind = chosen_exist ids facts agree (choices.Of kind)
  some_kind_report kinds.Objects kind = some_objects kind

  pub some_node_report : (report : NodeReport) (id : ℕ) → (text : List ℕ) × IsNodeReport ids facts report id text
  some_node_report nodes.Show id = some_show ids facts id agree
  some_node_report nodes.Why id = why_exists ids facts agree id
  some_node_report nodes.Who id = who_exists ids facts agree id
  some_node_report nodes.Keeps id = keeps_exists ids facts agree id
  some_node_report nodes.Text id = some_text id
  some_node_report nodes.Object id = some_object id
  some_node_report nodes.Refs id = some_refs id
  some_node_report nodes.Path id = some_path_text id

  -- ---- names

  names_classes : (name : List ℕ) → NamesClasses name ⊎ ¬ (NamesClasses name)
  names_classes name = same_bytes (slashed (codes "java/lang/Class")) (slashed (meant_label name))

  -- `biggest` on the classes of a name, whether it is that of the class of all classes or not
  biggest_of_classes : (name classes : List ℕ) → (text : List ℕ) × IsBiggestText ids facts (IsOfClasses facts name classes) text
  biggest_of_classes name classes = by (names_classes name) where
    with_dumps : (dumps : Bool) → (IsTrue dumps ↔ NamesClasses name)
        → (text : List ℕ) × IsBiggestText ids facts (IsOfClasses facts name classes) text
    with_dumps dumps same =
        let text = chosen_exist ids facts agree (choices.OfClasses (record { ref_ptr = (0, 0); now = classes }) dumps) in
        (text.0, biggest_of_name ids facts name classes dumps same text.0 text.1)

    by : NamesClasses name ⊎ ¬ (NamesClasses name) → (text : List ℕ) × IsBiggestText ids facts (IsOfClasses facts name classes) text
    by (inl is) = with_dumps true (λ _. is, λ _. refl)
    by (inr fails) = with_dumps false (λ none. absurd cc, λ is. absurd (fails is))

  some_report_of_classes : (report : KindReport) (name classes : List ℕ)
      → (text : List ℕ) × IsReportOfClasses ids facts report name classes text
  some_report_of_classes kinds.Biggest name classes = biggest_of_classes name classes
  some_report_of_classes kinds.Objects name classes = some_objects_text ids facts classes

  kind_named : (report : KindReport) (name : List ℕ) (classes : List ℕ) → AreMeantClasses facts name classes
      → (classes ≡ [] → NamesClasses name) → (text : List ℕ) × IsNamedKind ids facts report name text
  kind_named report name classes are there =
      let text = some_report_of_classes report name classes in
      (text.0, record { classes = classes; are_classes = are; there = there; is = text.1 })

  named_kind : (report : KindReport) (name : List ℕ) → ((text : List ℕ) × IsNamedKind ids facts report name text)
      ⊎ (AreMeantClasses facts name [] × ¬ (NamesClasses name))
  named_kind report name = let all = some_classes_named facts name agree in by all.0 all.1 (names_classes name) where
    by : (classes : List ℕ) → AreMeantClasses facts name classes → NamesClasses name ⊎ ¬ (NamesClasses name)
        → ((text : List ℕ) × IsNamedKind ids facts report name text) ⊎ (AreMeantClasses facts name [] × ¬ (NamesClasses name))
    by [] are (inl is) = inl (kind_named report name [] are (λ _. is))
    by [] are (inr fails) = inr (are, fails)
    by (class ∷ classes) are either = inl (kind_named report name (class ∷ classes) are (λ none. absurd cc))

  named_report : (report : NodeReport) (name : List ℕ) → ((text : List ℕ) × IsNamedReport ids facts report name text)
      ⊎ AreMeantDumps facts name []
  named_report report name = let all = some_dumps_named facts name agree in by all.0 all.1 where
    by : (dumps : List ℕ) → AreMeantDumps facts name dumps → ((text : List ℕ) × IsNamedReport ids facts report name text)
        ⊎ AreMeantDumps facts name []
    by [] are = inr are
    by (id ∷ []) are =
        let text = some_node_report report id in
        inl (text.0, record { dumps = id ∷ []; are_dumps = are; is = text.1 })
    by (id ∷ other ∷ more) are =
        let text = some_named_text ids facts (id ∷ other ∷ more) agree in
        inl (text.0, record { dumps = id ∷ other ∷ more; are_dumps = are; is = text.1 })

  -- ---- all reports

  -- there is one, or the report is on a name that no class has
  pub report_or_none : (summaries : List PartSummary) (report : Report) → ((text : List ℕ) × IsReport summaries ids facts report text)
      ⊎ LacksClass facts report
  report_or_none summaries (reports.Heap report) = inl (some_heap_report summaries report)
  report_or_none summaries (reports.Kind report (these.Of kind)) = inl (some_kind_report report kind)
  report_or_none summaries (reports.Kind report (these.Named name)) = named_kind report name.now
  report_or_none summaries (reports.Node report (that.Identifier id)) = inl (some_node_report report id)
  report_or_none summaries (reports.Node report (that.Named name)) = named_report report name.now

  pub some_report : (summaries : List PartSummary) (report : Report) → (LacksClass facts report → ⊥)
      → (text : List ℕ) × IsReport summaries ids facts report text
  some_report summaries report there = elim (report_or_none summaries report) [ inl it ↦ it | inr none ↦ absurd (there none) ]
