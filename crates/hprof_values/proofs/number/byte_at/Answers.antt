use Rattle.std.proofs.Common.{rules}
use Rattle.hprof_values.proofs.number.byte_at.Goals as goal

pub returns : goal.returns
returns c = search rules
