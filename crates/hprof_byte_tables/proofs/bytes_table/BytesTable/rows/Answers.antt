use Rattle.std.proofs.Common.{rules}
use Rattle.hprof_tables.specs.SortedTable.{entries_left}
use Rattle.hprof_byte_tables.proofs.Spans.{ascending_lying}
use Rattle.hprof_byte_tables.proofs.bytes_table.BytesTable.rows.Goals as goal

pub returns-clause-ascending : goal.returns-clause-ascending
returns-clause-ascending c = ascending_lying c.as_slice.result.now (entries_left c.iter.result)
    (rw c.iter.ensures.all c.iter.ensures.ascending)

pub returns-clause-all : goal.returns-clause-all
returns-clause-all c = search rules
