use Rattle.std.proofs.Common.{rules}
use Rattle.hprof_byte_tables.proofs.bytes_table.BytesRowsIterator.next.Goals as goal

pub returns-clause-steps : goal.returns-clause-steps
returns-clause-steps c = search rules
