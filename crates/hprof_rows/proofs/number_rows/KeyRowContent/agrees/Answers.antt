use Rattle.std.proofs.Common.{rules}
use Rattle.hprof_rows.proofs.number_rows.KeyRowContent.agrees.Goals as goal

pub returns : goal.returns
returns c = search rules
