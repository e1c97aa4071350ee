use Rattle.std.proofs.Common.{rules}
use Rattle.hprof_values.proofs.number_writing.Number.width.Goals as goal

pub returns-in-Id : goal.returns-in-Id
returns-in-Id c = search rules
