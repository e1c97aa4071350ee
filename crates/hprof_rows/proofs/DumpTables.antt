-- The first seven tables of a heap are those of the facts that records state, the others those of sub-records.
use Rattle.std.proofs.Common.{◌≡◌, ℕ, zero, suc, ◌+◌, ◌<◌, ◌≤◌, Bool, true, false, List, [], ◌∷◌, ◌++◌, take, drop, append-nil, refl, sym}
use Rattle.std.proofs.Common.{ap, subst, ◌∙◌, inl, inr, arith}
use Rattle.std.specs.Prelude.{not, nat_lt, slice_index}
use Rattle.std.specs.List.{AllByRecursion, filter}
use Rattle.std.proofs.lemmas.Bool.{lt-ltb, le-ltb}
use Rattle.std.proofs.lemmas.List.Elements.{filter-append}
use Rattle.hprof_values.specs.declared.ids.IdSize.{IdSize}
use Rattle.hprof_values.specs.declared.root.Root.{Root}
use Rattle.hprof_items.specs.FactValue.{FactValue, Rooted}
use Rattle.hprof_items.specs.Spelling.{Fits}
use Rattle.hprof_rows.specs.declared.table.Table.{Table}
use Rattle.hprof_rows.specs.SubFacts.{is_record_fact, is_sub_fact, sub_facts}
use Rattle.hprof_rows.specs.Facts.{Has, AllFit}
use Rattle.hprof_rows.specs.Tables.{facts_of_table, number_of_table, joined}
use Rattle.hprof_rows.specs.HeapRows.{HeapRows, AreHeap, tables_of, root_facts, spelled_facts, object_facts}
use Rattle.hprof_rows.specs.SubRow.{AllRootsFit, AreWritable, facts_of_subs}
use Rattle.hprof_rows.proofs.DumpOrder.{by_place}
use Rattle.hprof_rows.proofs.FactSets.{Has-back}
use Rattle.hprof_rows.proofs.HeapRows.{heap_tables, table_facts}
use Rattle.hprof_rows.proofs.ReadBack.{table_fits, classes_spelled, objects_kept}
use Rattle.hprof_rows.proofs.Tables.{IsOf, AllOf, AreTables, filter_none, filter_all, all_weaker}

-- ---- a table's facts

by_table : (table : ℕ) (fact : FactValue) → IsOf table fact → is_record_fact fact ≡ nat_lt table 7
by_table table fact of = by_place fact ∙ ap (λ (place : List ℕ). nat_lt (slice_index place 0) 7) of.stands

-- those of a table are all stated by records, or none of them is
all_records : (table : ℕ) (facts : List FactValue) → table < 7 → AllOf table facts
    → AllByRecursion (λ fact. is_record_fact fact ≡ true) facts
all_records table facts lt of =
    all_weaker (IsOf table) (λ fact. is_record_fact fact ≡ true) facts (λ fact stands. by_table table fact stands ∙ lt-ltb table 7 lt) of

no_records : (table : ℕ) (facts : List FactValue) → 7 ≤ table → AllOf table facts
    → AllByRecursion (λ fact. is_record_fact fact ≡ false) facts
no_records table facts le of =
    all_weaker (IsOf table) (λ fact. is_record_fact fact ≡ false) facts (λ fact stands. by_table table fact stands ∙ le-ltb table 7 le) of

is_not : (answer : Bool) (facts : List FactValue) → AllByRecursion (λ fact. is_record_fact fact ≡ answer) facts
    → AllByRecursion (λ fact. is_sub_fact fact ≡ not answer) facts
is_not answer facts all =
    all_weaker (λ fact. is_record_fact fact ≡ answer) (λ fact. is_sub_fact fact ≡ not answer) facts (λ fact e. ap not e) all

-- ---- the facts of tables, one behind the other

-- from the eighth on all are sub-records
all_subs : (tables : List (List FactValue)) (number : ℕ) → 7 ≤ number → AreTables number tables
    → filter is_sub_fact (joined tables) ≡ joined tables
all_subs [] number le are = refl
all_subs (facts ∷ tables) number le are =
    filter-append is_sub_fact facts (joined tables)
    ∙ ap (λ (l : List FactValue). l ++ filter is_sub_fact (joined tables))
    (filter_all is_sub_fact facts (is_not false facts (no_records number facts le are.0)))
    ∙ ap (λ (l : List FactValue). facts ++ l) (all_subs tables (suc number) (omega arith) are.1)

none_stated : (tables : List (List FactValue)) (number : ℕ) → 7 ≤ number → AreTables number tables
    → filter is_record_fact (joined tables) ≡ []
none_stated [] number le are = refl
none_stated (facts ∷ tables) number le are =
    filter-append is_record_fact facts (joined tables)
    ∙ ap (λ (l : List FactValue). l ++ filter is_record_fact (joined tables))
    (filter_none is_record_fact facts (no_records number facts le are.0))
    ∙ none_stated tables (suc number) (omega arith) are.1

subs_in : (left number : ℕ) (tables : List (List FactValue)) → number + left ≡ 7 → AreTables number tables
    → filter is_sub_fact (joined tables) ≡ joined (drop left tables)
subs_in zero number tables e are = all_subs tables number (omega arith) are
subs_in (suc left) number [] e are = refl
subs_in (suc left) number (facts ∷ tables) e are =
    filter-append is_sub_fact facts (joined tables)
    ∙ ap (λ (l : List FactValue). l ++ filter is_sub_fact (joined tables))
    (filter_none is_sub_fact facts (is_not true facts (all_records number facts (omega arith) are.0)))
    ∙ subs_in left (suc number) tables (omega arith) are.1

records_in : (left number : ℕ) (tables : List (List FactValue)) → number + left ≡ 7 → AreTables number tables
    → filter is_record_fact (joined tables) ≡ joined (take left tables)
records_in zero number tables e are = none_stated tables number (omega arith) are
records_in (suc left) number [] e are = refl
records_in (suc left) number (facts ∷ tables) e are =
    filter-append is_record_fact facts (joined tables)
    ∙ ap (λ (l : List FactValue). l ++ filter is_record_fact (joined tables))
    (filter_all is_record_fact facts (all_records number facts (omega arith) are.0))
    ∙ ap (λ (l : List FactValue). facts ++ l) (records_in left (suc number) tables (omega arith) are.1)

-- ---- those of a heap

pub heap_records : (rows : HeapRows) → AreHeap rows → filter is_record_fact (joined (tables_of rows)) ≡ joined (take 7 (tables_of rows))
heap_records rows are = records_in 7 0 (tables_of rows) refl (heap_tables rows are)

pub heap_subs : (rows : HeapRows) → AreHeap rows
    → facts_of_subs rows.ids rows.roots rows.classes rows.objects ≡ sub_facts (joined (tables_of rows))
heap_subs rows are =
    ap (λ (l : List FactValue). root_facts rows.roots ++ (spelled_facts rows.ids rows.classes ++ l))
    (sym (append-nil (object_facts rows.ids rows.objects)))
    ∙ sym (subs_in 7 0 (tables_of rows) refl (heap_tables rows are))

roots_fit : (ids : IdSize) (roots : List Root) → AllFit ids (root_facts roots) → AllRootsFit ids roots
roots_fit ids [] fit = tt
roots_fit ids (root ∷ roots) fit = (fit (Rooted root) (inl refl), roots_fit ids roots (λ other has. fit other (inr has)))

pub subs_writable : (rows : HeapRows) → AreHeap rows → AreWritable rows.ids rows.roots rows.classes rows.objects
subs_writable rows are = (roots_fit rows.ids rows.roots (table_fits rows are 7), classes_spelled rows are, objects_kept rows are)

-- ---- the facts of a table can be written

pub table_fact_fits : (rows : HeapRows) (table : Table) (front rest : List FactValue) (fact : FactValue) → AreHeap rows
    → facts_of_table table (joined (tables_of rows)) ≡ front ++ fact ∷ rest → Fits rows.ids fact
table_fact_fits rows table front rest fact are parts =
    table_fits rows are (number_of_table table) fact
    (subst (λ (facts : List FactValue). Has facts fact) (sym parts ∙ table_facts rows table are)
    (Has-back front (fact ∷ rest) fact (inl refl)))
