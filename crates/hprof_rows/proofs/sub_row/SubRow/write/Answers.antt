use Rattle.std.proofs.Common.{rules}
use Rattle.hprof_rows.proofs.sub_row.SubRow.write.Goals as goal

pub returns-in-Class-clause-bytes : goal.returns-in-Class-clause-bytes
returns-in-Class-clause-bytes g c = search rules
