-- The sub-records of a heap that are still to come.
use Rattle.std.specs.Prelude.{◌≡◌, List, Option, IfSome}
use Rattle.std.specs.Iterator.{YieldsFirstBy}
use Rattle.hprof_values.specs.declared.ids.IdSize.{IdSize}
use Rattle.hprof_items.specs.FactValue.{FactValue}
use Rattle.hprof_rows.specs.declared.sub_row.SubRow.{SubRow}
use Rattle.hprof_rows.specs.declared.sub_rows.SubRows.{SubRows}
use Rattle.hprof_byte_tables.specs.BytesTable.{byte_rows_left}
use Rattle.hprof_rows.specs.SubRow.{sub_fact, IsWritable, facts_of_subs}

-- the facts of those that are still to come
abbrev pub subs_left : SubRows → List FactValue
subs_left subs = facts_of_subs subs.ids subs.roots (byte_rows_left subs.classes) (byte_rows_left subs.objects)

-- the size of their identifiers
abbrev pub subs_ids : SubRows → IdSize
subs_ids subs = subs.ids

-- the first of them is taken, and can be written
pub record YieldsSub (old : SubRows) (taken : Option SubRow) (new : SubRows) : Type 0 where
  pub first : YieldsFirstBy (sub_fact (subs_ids old)) subs_left old taken new
  pub writable : IfSome taken (IsWritable (subs_ids old))
  pub has_ids : subs_ids new ≡ subs_ids old
