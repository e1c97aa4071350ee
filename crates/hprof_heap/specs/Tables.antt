-- What the tables of a heap show.
use Rattle.std.specs.Prelude.{◌≡◌, ℕ, Option, None}
use Rattle.hprof_byte_tables.specs.BytesTable.{byte_rows, byte_rows_left}
use Rattle.hprof_tables.specs.Relation.{rows_of}
use Rattle.hprof_tables.specs.Rows.{rows_left}
use Rattle.hprof_rows.specs.declared.table.Table.{Table}
use Rattle.hprof_rows.specs.declared.table.Table.TheVariants as tables
use Rattle.hprof_rows.specs.declared.table_rows.TableRows.{TableRows}
use Rattle.hprof_rows.specs.declared.table_rows.TableRows.TheVariants as lists
use Rattle.hprof_rows.specs.EachTable.{DiffersFirst}
use Rattle.hprof_rows.specs.HeapRows.{HeapRows}
use Rattle.hprof_rows.specs.RootSet.{roots_of}
use Rattle.hprof_heap.specs.declared.tables.Tables.{Tables}

-- their rows
abbrev pub rows_in_tables : Tables → HeapRows
rows_in_tables those = record {
  ids = those.ids;
  millis = those.millis;
  names = byte_rows those.names;
  loads = rows_of those.loads;
  unloads = rows_of those.unloads;
  frames = rows_of those.frames;
  traces = byte_rows those.traces;
  starts = rows_of those.starts;
  ends = rows_of those.ends;
  roots = roots_of those.roots;
  classes = byte_rows those.classes;
  objects = byte_rows those.objects;
}

-- the rows of one of them are still to come
abbrev pub AreRowsOf : Table → HeapRows → TableRows → Type 0
AreRowsOf tables.Names rows (lists.Names left) = byte_rows_left left ≡ rows.names
AreRowsOf tables.Loads rows (lists.Loads left) = rows_left left ≡ rows.loads
AreRowsOf tables.Unloads rows (lists.Unloads left) = rows_left left ≡ rows.unloads
AreRowsOf tables.Frames rows (lists.Frames left) = rows_left left ≡ rows.frames
AreRowsOf tables.Traces rows (lists.Traces left) = byte_rows_left left ≡ rows.traces
AreRowsOf tables.Starts rows (lists.Starts left) = rows_left left ≡ rows.starts
AreRowsOf tables.Ends rows (lists.Ends left) = rows_left left ≡ rows.ends
AreRowsOf tables.Roots rows (lists.Roots left) = left ≡ rows.roots
AreRowsOf tables.Classes rows (lists.Classes left) = byte_rows_left left ≡ rows.classes
AreRowsOf tables.Objects rows (lists.Objects left) = byte_rows_left left ≡ rows.objects
AreRowsOf table rows left = ⊥

-- the least key at which one of them differs from that of others; roots have no keys, so that none differs
abbrev pub Differs : Table → HeapRows → HeapRows → Option ℕ → Type 0
Differs tables.Roots one other found = found ≡ None
Differs table one other found = DiffersFirst table one other found
