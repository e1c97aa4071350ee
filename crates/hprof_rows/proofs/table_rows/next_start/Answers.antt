use Rattle.std.proofs.Common.{rules}
use Rattle.hprof_rows.proofs.table_rows.next_start.Goals as goal

pub returns-clause-first : goal.returns-clause-first
returns-clause-first c = search rules
