use Rattle.std.proofs.Common.{rules}
use Rattle.hprof_rows.proofs.key.Key.lesser.Goals as goal

pub returns-else-le : goal.returns-else-le
returns-else-le c = search rules

pub returns-then-le : goal.returns-then-le
returns-then-le c = search rules
