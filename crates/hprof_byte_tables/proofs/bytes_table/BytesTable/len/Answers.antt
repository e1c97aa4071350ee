use Rattle.std.proofs.Common.{arith}
use Rattle.std.proofs.lemmas.Grind.{common_steps}
use Rattle.hprof_byte_tables.proofs.bytes_table.BytesTable.len.Goals as goal

pub returns : goal.returns
returns c = grind (arith, common_steps)
