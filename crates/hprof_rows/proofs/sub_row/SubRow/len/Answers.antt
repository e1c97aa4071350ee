use Rattle.std.proofs.Common.{rules}
use Rattle.hprof_rows.proofs.sub_row.SubRow.len.Goals as goal

pub returns-in-Class-clause-value : goal.returns-in-Class-clause-value
returns-in-Class-clause-value c = search rules
