-- What the rows of one table state, and that each of them can be read back.
use Rattle.std.specs.Prelude.{◌<◌, ◌^◌, ℕ, List, [], ◌∷◌, ⊤}
use Rattle.std.specs.Coded.{×_prop, Unit-prop, le_prop}
use Rattle.std.specs.List.{AllByRecursion}
use Rattle.std.proofs.Props.{props}
use Rattle.hprof_values.specs.declared.ids.IdSize.{IdSize}
use Rattle.hprof_items.specs.FactValue.{FactValue}
use Rattle.hprof_rows.specs.declared.table_rows.TableRows.{TableRows}
use Rattle.hprof_rows.specs.declared.table_rows.TableRows.TheVariants as tables
use Rattle.hprof_rows.specs.Content.{decode_class, object_fact}
use Rattle.hprof_byte_tables.specs.Spans.{the_bytes}
use Rattle.hprof_rows.specs.Fitting.{DumpFits-prop}
use Rattle.hprof_rows.specs.HeapRows.{name_facts, load_facts, unload_facts, frame_facts, trace_facts, start_facts, end_facts, root_facts}
use Rattle.hprof_rows.specs.HeapRows.{spelled_facts, object_facts}
use Rattle.hprof_tables.specs.Rows.{rows_left}
use Rattle.hprof_byte_tables.specs.BytesTable.{byte_rows_left}
use Rattle.hprof_rows.specs.Spelled.{Spells}
use Rattle.hprof_rows.specs.Kept.{KeepsObject}
use Rattle.hprof_rows.specs.Trace.{IsTrace}

-- ---- rows that can be read back

-- the key is a serial
abbrev pub HasSerial : {V : Type 0} → ℕ × V → Type 0
HasSerial row = row.0 < 2 ^ 32

-- the key is a serial, and the bytes are those of a trace
abbrev pub IsWhole : IdSize → ℕ × List ℕ → Type 0
IsWhole ids row = HasSerial row × IsTrace ids (the_bytes row.1)

-- the bytes spell the fact of the row
abbrev pub IsSpelled : IdSize → ℕ × List ℕ → Type 0
IsSpelled ids row = Spells ids (decode_class ids row.0 (the_bytes row.1)) (the_bytes row.1)

-- the bytes are what is kept of the fact of the row
abbrev pub IsObject : IdSize → ℕ × List ℕ → Type 0
IsObject ids row = KeepsObject ids row.0 (object_fact ids row.0 (the_bytes row.1)) (the_bytes row.1)

abbrev pub AreSerials : {V : Type 0} → List (ℕ × V) → Type 0
AreSerials rows = AllByRecursion HasSerial rows

abbrev pub AreWhole : IdSize → List (ℕ × List ℕ) → Type 0
AreWhole ids rows = AllByRecursion (IsWhole ids) rows

abbrev pub AreSpelled : IdSize → List (ℕ × List ℕ) → Type 0
AreSpelled ids rows = AllByRecursion (IsSpelled ids) rows

abbrev pub AreObjects : IdSize → List (ℕ × List ℕ) → Type 0
AreObjects ids rows = AllByRecursion (IsObject ids) rows

-- each row that is still to come can be read back
abbrev pub AreReadable : IdSize → TableRows → Type 0
AreReadable ids (tables.Names rows) = ⊤
AreReadable ids (tables.Loads rows) = AreSerials (rows_left rows)
AreReadable ids (tables.Unloads rows) = AreSerials (rows_left rows)
AreReadable ids (tables.Frames rows) = ⊤
AreReadable ids (tables.Traces rows) = AreWhole ids (byte_rows_left rows)
AreReadable ids (tables.Starts rows) = AreSerials (rows_left rows)
AreReadable ids (tables.Ends rows) = AreSerials (rows_left rows)
AreReadable ids (tables.Roots roots) = ⊤
AreReadable ids (tables.Classes rows) = AreSpelled ids (byte_rows_left rows)
AreReadable ids (tables.Objects rows) = AreObjects ids (byte_rows_left rows)

-- ---- their facts

-- the facts of the rows that are still to come
abbrev pub facts_in_rows : IdSize → TableRows → List FactValue
facts_in_rows ids (tables.Names rows) = name_facts (byte_rows_left rows)
facts_in_rows ids (tables.Loads rows) = load_facts (rows_left rows)
facts_in_rows ids (tables.Unloads rows) = unload_facts (rows_left rows)
facts_in_rows ids (tables.Frames rows) = frame_facts (rows_left rows)
facts_in_rows ids (tables.Traces rows) = trace_facts ids (byte_rows_left rows)
facts_in_rows ids (tables.Starts rows) = start_facts (rows_left rows)
facts_in_rows ids (tables.Ends rows) = end_facts (rows_left rows)
facts_in_rows ids (tables.Roots roots) = root_facts roots
facts_in_rows ids (tables.Classes rows) = spelled_facts ids (byte_rows_left rows)
facts_in_rows ids (tables.Objects rows) = object_facts ids (byte_rows_left rows)

-- ---- there is at most one proof that they can be read back

pub all-prop : {A : Type 0} (P : A → Type 0) → ((a : A) → IsProp (P a)) → (rows : List A) → IsProp (AllByRecursion P rows)
all-prop P each [] = Unit-prop
all-prop P each (row ∷ rows) = ×_prop (each row) (all-prop P each rows)

AreSerials-prop : {V : Type 0} (rows : List (ℕ × V)) → IsProp (AreSerials rows)
AreSerials-prop rows = all-prop HasSerial (λ row. le_prop) rows

IsWhole-prop : (ids : IdSize) (row : ℕ × List ℕ) → IsProp (IsWhole ids row)
IsWhole-prop ids row = hlevel (props, le_prop)

IsSpelled-prop : (ids : IdSize) (row : ℕ × List ℕ) → IsProp (IsSpelled ids row)
IsSpelled-prop ids row = hlevel (props, le_prop, DumpFits-prop)

pub AreSpelled-prop : (ids : IdSize) (rows : List (ℕ × List ℕ)) → IsProp (AreSpelled ids rows)
AreSpelled-prop ids rows = all-prop (IsSpelled ids) (IsSpelled-prop ids) rows

IsObject-prop : (ids : IdSize) (row : ℕ × List ℕ) → IsProp (IsObject ids row)
IsObject-prop ids row = hlevel (props, le_prop, DumpFits-prop)

pub AreObjects-prop : (ids : IdSize) (rows : List (ℕ × List ℕ)) → IsProp (AreObjects ids rows)
AreObjects-prop ids rows = all-prop (IsObject ids) (IsObject-prop ids) rows

pub AreReadable-prop : (ids : IdSize) (rows : TableRows) → IsProp (AreReadable ids rows)
AreReadable-prop ids (tables.Names rows) = Unit-prop
AreReadable-prop ids (tables.Loads rows) = AreSerials-prop (rows_left rows)
AreReadable-prop ids (tables.Unloads rows) = AreSerials-prop (rows_left rows)
AreReadable-prop ids (tables.Frames rows) = Unit-prop
AreReadable-prop ids (tables.Traces rows) = all-prop (IsWhole ids) (IsWhole-prop ids) (byte_rows_left rows)
AreReadable-prop ids (tables.Starts rows) = AreSerials-prop (rows_left rows)
AreReadable-prop ids (tables.Ends rows) = AreSerials-prop (rows_left rows)
AreReadable-prop ids (tables.Roots roots) = Unit-prop
AreReadable-prop ids (tables.Classes rows) = AreSpelled-prop ids (byte_rows_left rows)
AreReadable-prop ids (tables.Objects rows) = AreObjects-prop ids (byte_rows_left rows)
