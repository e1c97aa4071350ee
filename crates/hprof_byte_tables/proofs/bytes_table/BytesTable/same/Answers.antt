use Rattle.std.proofs.Common.{rules}
use Rattle.hprof_byte_tables.proofs.bytes_table.BytesTable.same.Goals as goal

pub returns : goal.returns
returns c = search rules
