use Rattle.std.proofs.Common.{rules}
use Rattle.hprof_byte_tables.proofs.bytes_table.BytesTable.new.Goals as goal

pub returns-clause-none : goal.returns-clause-none
returns-clause-none c = search rules

pub returns-clause-no_room : goal.returns-clause-no_room
returns-clause-no_room c = search rules
