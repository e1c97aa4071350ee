-- The rows of a heap, table by table, and the facts that they state.
use Rattle.std.specs.Prelude.{◌≡◌, ℕ, List, [], ◌∷◌, map}
use Rattle.std.specs.Coded.{×_prop, Unit-prop}
use Rattle.std.proofs.Props.{props}
use Rattle.hprof_values.specs.declared.ids.IdSize.{IdSize}
use Rattle.hprof_values.specs.declared.root.Root.{Root}
use Rattle.hprof_items.specs.FactValue.{FactValue, Name, Rooted}
use Rattle.hprof_rows.specs.declared.number_rows.LoadRow.{LoadRow}
use Rattle.hprof_rows.specs.declared.number_rows.FrameRow.{FrameRow}
use Rattle.hprof_rows.specs.declared.number_rows.StartRow.{StartRow}
use Rattle.hprof_rows.specs.declared.number_rows.KeyRow.{KeyRow}
use Rattle.hprof_rows.specs.Content.{load_fact, unload_fact, frame_fact, trace_fact, start_fact, end_fact, decode_class, object_fact}
use Rattle.hprof_rows.specs.Content.{facts_of_rows}
use Rattle.hprof_rows.specs.Content.{IsRight, AreRight}
use Rattle.hprof_byte_tables.specs.Spans.{the_bytes}
use Rattle.hprof_rows.specs.HeapValue.{HeapValue, IsHeap, IsHeap-prop}
use Rattle.hprof_rows.specs.NumberRows.{load_numbers, frame_numbers, start_numbers}
use Rattle.hprof_tables.specs.Relation.{contents_of}
use Rattle.hprof_rows.specs.Tables.{joined}

-- a row whose key says all has no content
abbrev pub no_content : KeyRow → List ℕ
no_content row = []

-- ---- the facts of each table

abbrev pub name_facts : List (ℕ × List ℕ) → List FactValue
name_facts rows = facts_of_rows Name the_bytes rows

abbrev pub load_facts : List (ℕ × LoadRow) → List FactValue
load_facts rows = facts_of_rows load_fact load_numbers rows

abbrev pub unload_facts : List (ℕ × KeyRow) → List FactValue
unload_facts rows = facts_of_rows unload_fact no_content rows

abbrev pub frame_facts : List (ℕ × FrameRow) → List FactValue
frame_facts rows = facts_of_rows frame_fact frame_numbers rows

abbrev pub trace_facts : IdSize → List (ℕ × List ℕ) → List FactValue
trace_facts ids rows = facts_of_rows (trace_fact ids) the_bytes rows

abbrev pub start_facts : List (ℕ × StartRow) → List FactValue
start_facts rows = facts_of_rows start_fact start_numbers rows

abbrev pub end_facts : List (ℕ × KeyRow) → List FactValue
end_facts rows = facts_of_rows end_fact no_content rows

abbrev pub root_facts : List Root → List FactValue
root_facts roots = map Rooted roots

abbrev pub spelled_facts : IdSize → List (ℕ × List ℕ) → List FactValue
spelled_facts ids rows = facts_of_rows (decode_class ids) the_bytes rows

abbrev pub object_facts : IdSize → List (ℕ × List ℕ) → List FactValue
object_facts ids rows = facts_of_rows (object_fact ids) the_bytes rows

-- ---- all tables

pub record HeapRows : Type 0 where
  pub ids : IdSize
  pub millis : ℕ
  pub names : List (ℕ × List ℕ)
  pub loads : List (ℕ × LoadRow)
  pub unloads : List (ℕ × KeyRow)
  pub frames : List (ℕ × FrameRow)
  pub traces : List (ℕ × List ℕ)
  pub starts : List (ℕ × StartRow)
  pub ends : List (ℕ × KeyRow)
  pub roots : List Root
  pub classes : List (ℕ × List ℕ)
  pub objects : List (ℕ × List ℕ)

-- the facts of the ten tables
abbrev pub tables_of : HeapRows → List (List FactValue)
tables_of rows =
    name_facts rows.names ∷ load_facts rows.loads ∷ unload_facts rows.unloads ∷ frame_facts rows.frames ∷ trace_facts rows.ids rows.traces
    ∷ start_facts rows.starts ∷ end_facts rows.ends ∷ root_facts rows.roots ∷ spelled_facts rows.ids rows.classes ∷ object_facts
    rows.ids rows.objects ∷ []

-- the heap that the rows are: the facts of the tables, one after the other
abbrev pub heap_of_rows : HeapRows → HeapValue
heap_of_rows rows = record { ids = rows.ids; millis = rows.millis; facts = joined (tables_of rows) }

-- what the rows of every heap keep: they are a heap, and each row can be read back
pub record AreHeap (rows : HeapRows) : Type 0 where
  pub heap : IsHeap (heap_of_rows rows)
  pub traces : AreRight rows.ids 4 (trace_fact rows.ids) the_bytes rows.traces
  pub classes : AreRight rows.ids 8 (decode_class rows.ids) the_bytes rows.classes
  pub objects : AreRight rows.ids 9 (object_fact rows.ids) the_bytes rows.objects

-- ---- two heaps

-- their tables of records have the same rows
pub record HaveSameRecords (one other : HeapRows) : Type 0 where
  pub names : one.names ≡ other.names
  pub loads : contents_of load_numbers one.loads ≡ contents_of load_numbers other.loads
  pub unloads : contents_of no_content one.unloads ≡ contents_of no_content other.unloads
  pub frames : contents_of frame_numbers one.frames ≡ contents_of frame_numbers other.frames
  pub traces : one.traces ≡ other.traces
  pub starts : contents_of start_numbers one.starts ≡ contents_of start_numbers other.starts
  pub ends : contents_of no_content one.ends ≡ contents_of no_content other.ends

-- and those of sub-records
pub record HaveSameSubs (one other : HeapRows) : Type 0 where
  pub roots : one.roots ≡ other.roots
  pub classes : one.classes ≡ other.classes
  pub objects : one.objects ≡ other.objects

-- ---- it has at most one proof

IsRight-prop : (ids : IdSize) (table : ℕ) (fact : ℕ → List ℕ → FactValue) (key : ℕ) (content : List ℕ)
    → IsProp (IsRight ids table fact key content)
IsRight-prop ids table fact key content = hlevel props

AreRight-prop : {V : Type 0} (ids : IdSize) (table : ℕ) (fact : ℕ → List ℕ → FactValue) (content : V → List ℕ) (rows : List (ℕ × V))
    → IsProp (AreRight ids table fact content rows)
AreRight-prop ids table fact content [] = Unit-prop
AreRight-prop ids table fact content (row ∷ rows) =
    ×_prop (IsRight-prop ids table fact row.0 (content row.1)) (AreRight-prop ids table fact content rows)

pub AreHeap-prop : (rows : HeapRows) → IsProp (AreHeap rows)
AreHeap-prop rows = hlevel (IsHeap-prop, AreRight-prop)
