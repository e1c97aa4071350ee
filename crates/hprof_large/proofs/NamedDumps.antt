-- The class dumps that a name means in facts without objects are those in the whole, and so is the answer where they are several.
use Rattle.std.specs.Prelude.{Contains, ◌≢◌, ◌==◌}
use Rattle.std.proofs.Common.{◌≡◌, ℕ, true, false, List, [], ◌∷◌, ◌++◌, Option, Some, None, length, codes, refl, sym, ap, subst, ◌∙◌, arith}
use Rattle.std.proofs.lemmas.Bool.{eqb-false, eqb-true}
use Rattle.std.specs.List.{All}
use Rattle.std.proofs.lemmas.List.Elements.{All-contains_itself, All-head, All-tail, All-weaker}
use Rattle.hprof_text.specs.Identifier.{id_digits}
use Rattle.hprof_values.specs.declared.ids.IdSize.{IdSize}
use Rattle.hprof_items.specs.FactValue.{FactValue}
use Rattle.hprof_rows.specs.declared.table.Table.TheVariants as tables
use Rattle.hprof_rows.specs.Facts.{AllFit}
use Rattle.hprof_rows.specs.Order.{IsCanonicalOrder}
use Rattle.hprof_rows.proofs.Order.{order_agrees}
use Rattle.hprof_heap.specs.Classes.{ClassValue, fact_of_class}
use Rattle.hprof_heap.specs.Found.{IsClassFound}
use Rattle.hprof_naming.specs.Texts.{TextValue}
use Rattle.hprof_passes.specs.Passing.{IsWhole}
use Rattle.hprof_passes.proofs.Tables.{has_same}
use Rattle.hprof_lines.proofs.WholeNames.{names_class_same, naming_same}
use Rattle.hprof_describe.specs.Findings.{AreFindings, Findings}
use Rattle.hprof_describe.specs.Nodes.{kind_of, kind_text, name_of_node, node_text}
use Rattle.hprof_describe.specs.Quoted.{behind_label}
use Rattle.hprof_describe.proofs.OneFinding.{findings_exist}
use Rattle.hprof_words.proofs.SameWords.{with_others}
use Rattle.hprof_meaning.specs.MeantClasses.{AreMeantDumps, IsDumped, IsMeantDump}
use Rattle.hprof_meaning.specs.NamedText.{IsNamedText, class_line, class_lines, number_line}
use Rattle.hprof_meaning.proofs.WholeLabels.{bare_label_of_same}
use Rattle.hprof_questions.specs.declared.report.NodeReport.{NodeReport}
use Rattle.hprof_ask.specs.Report.{IsNamedReport, IsNodeReport}

-- facts that are those of a heap are those of the whole without objects, and the other way round
pub back_of : (ids : IdSize) (facts all : List FactValue) → IsWhole ids facts all → AllFit ids facts → IsCanonicalOrder facts
    → IsWhole ids all facts
back_of ids facts all whole fit ordered =
    record { others = λ table other. sym (whole.others table other); fit = fit; ordered = ordered }

-- ---- the class dumps that are meant

meant_same : (ids : IdSize) (facts all : List FactValue) → IsWhole ids facts all → (word : List ℕ) (id : ℕ) → IsMeantDump all word id
    → IsMeantDump facts word id
meant_same ids facts all whole word id is =
    let dumped = is.is_dumped in
    let label = is.labelled.is_label in
    record {
      is_dumped = record {
        dump = dumped.dump;
        has = (has_same ids facts all whole tables.Classes (λ e. cc) (fact_of_class dumped.dump) refl).0 dumped.has;
        id_is = dumped.id_is;
      };
      labelled = record {
        label = is.labelled.label;
        is_label = (
          label.0,
          names_class_same ids facts all whole id label.0 label.1,
          bare_label_of_same ids facts all whole label.0 is.labelled.label label.2,
        );
        means = is.labelled.means;
      };
    }

-- ---- the words for a class dump

node_parts : Findings → ℕ → Option ClassValue → Option FactValue → Option (List ℕ) → List ℕ
node_parts found id class object name =
    id_digits id ++ codes " " ++ kind_of found.naming id class object ++ behind_label (name_of_node class name)

module _ (one : Findings) (object : ℕ → Option FactValue) (text : ℕ → TextValue) (thread_name : ℕ → Option (List ℕ)) where
  abbrev other : Findings
  other = with_others one object text thread_name

  -- they depend on no object
  dump_same : (id : ℕ) (dump : ClassValue) → one.class id ≡ Some dump → node_text one id ≡ node_text other id
  unfolding node_text kind_text node_parts
  dump_same id dump is =
      ap (λ (c : Option ClassValue). node_parts one id c (one.object id) (one.thread_name id)) is
      ∙ sym (ap (λ (c : Option ClassValue). node_parts one id c (object id) (thread_name id)) is)

  lines_same : (ids : List ℕ) → All (λ id. node_text one id ≡ node_text other id) ids → class_lines one ids ≡ class_lines other ids
  lines_same [] all = refl
  lines_same (id ∷ ids) all =
      let Same = λ (node : ℕ). node_text one node ≡ node_text other node in
      ap (λ (line : List ℕ). line ++ codes "\n" ++ class_lines one ids) (All-head Same id ids all)
      ∙ ap (λ (lines : List ℕ). class_line other id ++ lines) (lines_same ids (All-tail Same id ids all))

module _ (ids : IdSize) (facts all : List FactValue) (whole : IsWhole ids facts all) (back : IsWhole ids all facts) where
  pub dumps_same : (word dumps : List ℕ) → AreMeantDumps facts word dumps → AreMeantDumps all word dumps
  dumps_same word dumps are = record {
    ascend = are.ascend;
    exact = λ id. (
      λ has. meant_same ids all facts back word id ((are.exact id).0 has),
      λ is. (are.exact id).1 (meant_same ids facts all whole word id is),
    );
  }

  class_same : (id : ℕ) (class : Option ClassValue) → IsClassFound facts id class → IsClassFound all id class
  class_same id (Some dump) found =
      ((has_same ids facts all whole tables.Classes (λ e. cc) (fact_of_class dump) refl).1 found.0, found.1)
  class_same id None none = λ dump has.
      none dump ((has_same ids facts all whole tables.Classes (λ e. cc) (fact_of_class dump) refl).0 has)

  -- a class dump is found
  found_dump : (id : ℕ) (class : Option ClassValue) → IsClassFound facts id class → IsDumped facts id
      → (dump : ClassValue) × (class ≡ Some dump)
  found_dump id (Some dump) found dumped = (dump, refl)
  found_dump id None none dumped = absurd (none dumped.dump dumped.has dumped.id_is)

  module _ (dumps : List ℕ) (dumped : (id : ℕ) → Contains dumps id → IsDumped facts id) (text : List ℕ)
      (of : IsNamedText ids facts dumps text) (others : Findings) (are : AreFindings ids all others) where
    abbrev found : Findings
    found = with_others of.found others.object others.text others.thread_name

    same : (id : ℕ) → Contains dumps id → node_text of.found id ≡ node_text found id
    same id has =
        let dump = found_dump id (of.found.class id) (of.are_found.classes id) (dumped id has) in
        dump_same of.found others.object others.text others.thread_name id dump.0 dump.1

    named_with : IsNamedText ids all dumps text
    named_with = record {
      agree = order_agrees all whole.ordered;
      found = found;
      are_found = record {
        ids_are = of.are_found.ids_are;
        is_naming = naming_same ids all facts back of.found.naming of.are_found.is_naming;
        classes = λ id. class_same id (of.found.class id) (of.are_found.classes id);
        objects = are.objects;
        texts = are.texts;
        thread_names = are.thread_names;
      };
      is = of.is ∙ ap (λ (lines : List ℕ). number_line (length dumps) ++ lines)
          (lines_same of.found others.object others.text others.thread_name dumps
          (All-weaker (Contains dumps) (λ id. node_text of.found id ≡ node_text found id) same dumps (All-contains_itself dumps)));
    }

  pub named_in_all : (word dumps : List ℕ) → AreMeantDumps facts word dumps → (text : List ℕ) → IsNamedText ids facts dumps text
      → IsNamedText ids all dumps text
  named_in_all word dumps are text of =
      let others = findings_exist ids all (order_agrees all whole.ordered) in
      named_with dumps (λ id has. ((are.exact id).0 has).is_dumped) text of others.0 others.1

-- ---- whether there are some

pub none_there : (dumps : List ℕ) → true ≡ (length dumps == 0) → dumps ≡ []
none_there [] e = refl
none_there (id ∷ ids) e = let none = eqb-true (length (id ∷ ids)) 0 (sym e) in absurd (omega (arith, none))

pub some_there : (dumps : List ℕ) → false ≡ (length dumps == 0) → dumps ≡ [] → ⊥
some_there dumps e none = eqb-false (length dumps) 0 (sym e) (ap (length {A = ℕ}) none)

-- ---- the report

module _ (ids : IdSize) (facts : List FactValue) (report : NodeReport) (word : List ℕ) where
  -- one class dump
  pub report_of_one : (dumps : List ℕ) (id : ℕ) → dumps ≡ id ∷ [] → AreMeantDumps facts word dumps
      → (text : List ℕ) → IsNodeReport ids facts report id text → IsNamedReport ids facts report word text
  report_of_one dumps id one are text of =
      record { dumps = id ∷ []; are_dumps = subst (AreMeantDumps facts word) one are; is = of }

  -- several class dumps
  pub report_of_several : (dumps : List ℕ) → AreMeantDumps facts word dumps → (dumps ≡ [] → ⊥) → ((id : ℕ) → dumps ≢ id ∷ [])
      → (text : List ℕ) → IsNamedText ids facts dumps text → IsNamedReport ids facts report word text
  report_of_several [] are some others text of = absurd (some refl)
  report_of_several (id ∷ []) are some others text of = absurd (others id refl)
  report_of_several (id ∷ next ∷ rest) are some others text of =
      record { dumps = id ∷ next ∷ rest; are_dumps = are; is = of }

-- the class dumps that are meant among facts without objects are those in the whole
pub dumps_of_whole : (ids : IdSize) (facts all : List FactValue) → IsWhole ids facts all → AllFit ids facts → IsCanonicalOrder facts
    → (word dumps : List ℕ) → AreMeantDumps facts word dumps → AreMeantDumps all word dumps
dumps_of_whole ids facts all whole fit ordered = dumps_same ids facts all whole (back_of ids facts all whole fit ordered)

-- told of facts without objects, it is told of the whole
pub told_of_several : (ids : IdSize) (facts all : List FactValue) → IsWhole ids facts all → IsWhole ids all facts → (report : NodeReport)
    (word dumps : List ℕ) → AreMeantDumps facts word dumps → (dumps ≡ [] → ⊥) → ((id : ℕ) → dumps ≢ id ∷ []) → (P : List ℕ → Type 0)
    → (text : List ℕ) × IsNamedText ids facts dumps text × P text → (text : List ℕ) × IsNamedReport ids all report word text × P text
told_of_several ids facts all whole back report word dumps are some others P told = (
  told.0,
  report_of_several ids all report word dumps (dumps_same ids facts all whole back word dumps are) some others told.0
      (named_in_all ids facts all whole back word dumps are told.0 told.1),
  told.2,
)
