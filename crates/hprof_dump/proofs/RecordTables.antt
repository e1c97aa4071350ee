-- What records state, table by table.
use Rattle.std.proofs.Common.{◌≡◌, ℕ, List, [], ◌∷◌, ◌++◌, take, refl, sym}
use Rattle.std.proofs.Common.{ap, ◌∙◌}
use Rattle.std.specs.List.{flat_map}
use Rattle.std.proofs.lemmas.Grind.{flat_map-append}
use Rattle.hprof_values.specs.declared.ids.IdSize.{IdSize}
use Rattle.hprof_items.specs.FactValue.{FactValue}
use Rattle.hprof_items.specs.Spelling.{spelling}
use Rattle.hprof_rows.specs.declared.table.Table.{Table}
use Rattle.hprof_rows.specs.declared.table.Table.TheVariants as tables
use Rattle.hprof_dump.specs.Dump.{record_facts_bytes}
use Rattle.hprof_rows.specs.Tables.{facts_of_table, number_of_table, joined}
use Rattle.hprof_rows.specs.HeapRows.{HeapRows, AreHeap, tables_of}
use Rattle.hprof_rows.proofs.DumpTables.{heap_records}
use Rattle.hprof_rows.proofs.HeapRows.{table_facts}
use Rattle.hprof_rows.proofs.Tables.{table_at}

-- ---- their spellings, table by table

-- the tables of the facts that records state
abbrev pub record_tables : List Table
record_tables = tables.Names ∷ tables.Loads ∷ tables.Unloads ∷ tables.Frames ∷ tables.Traces ∷ tables.Starts ∷ tables.Ends ∷ []

-- the spellings of the facts of a table
abbrev pub table_bytes : IdSize → List FactValue → Table → List ℕ
table_bytes ids facts table = flat_map (spelling ids) (facts_of_table table facts)

spelled_joined : (ids : IdSize) (lists : List (List FactValue))
    → flat_map (spelling ids) (joined lists) ≡ flat_map (flat_map (spelling ids)) lists
spelled_joined ids [] = refl
spelled_joined ids (facts ∷ lists) =
    flat_map-append (spelling ids) facts (joined lists) ∙ ap (λ (l : List ℕ). flat_map (spelling ids) facts ++ l) (spelled_joined ids lists)

by_each : (f g : Table → List ℕ) (list : List Table) → ((table : Table) → f table ≡ g table) → flat_map f list ≡ flat_map g list
by_each f g [] same = refl
by_each f g (table ∷ list) same =
    ap (λ (l : List ℕ). l ++ flat_map f list) (same table) ∙ ap (λ (l : List ℕ). g table ++ l) (by_each f g list same)

pub records_spelled : (rows : HeapRows) → AreHeap rows
    → flat_map (table_bytes rows.ids (joined (tables_of rows))) record_tables ≡ record_facts_bytes rows.ids (joined (tables_of rows))
records_spelled rows are =
    by_each (table_bytes rows.ids (joined (tables_of rows)))
    (λ table. flat_map (spelling rows.ids) (table_at (tables_of rows) (number_of_table table))) record_tables
    (λ table. ap (flat_map (spelling rows.ids)) (table_facts rows table are))
    ∙ sym (ap (flat_map (spelling rows.ids)) (heap_records rows are) ∙ spelled_joined rows.ids (take 7 (tables_of rows)))
