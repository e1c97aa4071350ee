-- The rows of a table of a heap state its facts, and can be read back.
use Rattle.std.proofs.Common.{◌≡◌, ap, sym, subst, ◌∙◌}
use Rattle.hprof_rows.specs.declared.table.Table.{Table}
use Rattle.hprof_rows.specs.declared.table.Table.TheVariants as tables
use Rattle.hprof_rows.specs.declared.table_rows.TableRows.{TableRows}
use Rattle.hprof_rows.specs.declared.table_rows.TableRows.TheVariants as lists
use Rattle.hprof_rows.specs.HeapRows.{HeapRows, AreHeap, tables_of, name_facts, load_facts, unload_facts, frame_facts, trace_facts}
use Rattle.hprof_rows.specs.HeapRows.{start_facts, end_facts, root_facts, spelled_facts, object_facts}
use Rattle.hprof_rows.specs.TableRows.{AreSerials, AreWhole, AreSpelled, AreObjects, AreReadable, facts_in_rows}
use Rattle.hprof_rows.specs.Tables.{facts_of_table, number_of_table, joined}
use Rattle.hprof_rows.proofs.HeapRows.{table_facts}
use Rattle.hprof_rows.proofs.ReadBack.{load_serials, unload_serials, traces_whole, start_serials, end_serials, classes_spelled}
use Rattle.hprof_rows.proofs.ReadBack.{objects_kept}
use Rattle.hprof_rows.proofs.Tables.{table_at}
use Rattle.hprof_heap.specs.Tables.{AreRowsOf}

module _ (rows : HeapRows) (are : AreHeap rows) where
  record AreRead (table : Table) (left : TableRows) : Type 0 where
    facts : facts_in_rows rows.ids left ≡ table_at (tables_of rows) (number_of_table table)
    can_be : AreReadable rows.ids left

  read : (table : Table) (left : TableRows) → AreRowsOf table rows left → AreRead table left
  read tables.Names (lists.Names left) e = record { facts = ap name_facts e; can_be = tt }
  read tables.Loads (lists.Loads left) e =
      record { facts = ap load_facts e; can_be = subst AreSerials (sym e) (load_serials rows are) }
  read tables.Unloads (lists.Unloads left) e =
      record { facts = ap unload_facts e; can_be = subst AreSerials (sym e) (unload_serials rows are) }
  read tables.Frames (lists.Frames left) e = record { facts = ap frame_facts e; can_be = tt }
  read tables.Traces (lists.Traces left) e =
      record { facts = ap (trace_facts rows.ids) e; can_be = subst (AreWhole rows.ids) (sym e) (traces_whole rows are) }
  read tables.Starts (lists.Starts left) e =
      record { facts = ap start_facts e; can_be = subst AreSerials (sym e) (start_serials rows are) }
  read tables.Ends (lists.Ends left) e =
      record { facts = ap end_facts e; can_be = subst AreSerials (sym e) (end_serials rows are) }
  read tables.Roots (lists.Roots left) e = record { facts = ap root_facts e; can_be = tt }
  read tables.Classes (lists.Classes left) e =
      record { facts = ap (spelled_facts rows.ids) e; can_be = subst (AreSpelled rows.ids) (sym e) (classes_spelled rows are) }
  read tables.Objects (lists.Objects left) e =
      record { facts = ap (object_facts rows.ids) e; can_be = subst (AreObjects rows.ids) (sym e) (objects_kept rows are) }
  read table left e = absurd e

  pub record RowsRead (table : Table) (left : TableRows) : Type 0 where
    pub all : facts_in_rows rows.ids left ≡ facts_of_table table (joined (tables_of rows))
    pub readable : AreReadable rows.ids left

  pub rows_read : (table : Table) (left : TableRows) → AreRowsOf table rows left → RowsRead table left
  rows_read table left of =
      let it = read table left of in
      record { all = it.facts ∙ sym (table_facts rows table are); readable = it.can_be }
