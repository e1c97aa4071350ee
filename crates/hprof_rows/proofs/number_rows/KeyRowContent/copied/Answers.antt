use Rattle.std.proofs.Common.{rules}
use Rattle.hprof_rows.proofs.number_rows.KeyRowContent.copied.Goals as goal

pub returns-clause-full : goal.returns-clause-full
returns-clause-full c = search rules

pub returns-clause-row : goal.returns-clause-row
returns-clause-row c = search rules
