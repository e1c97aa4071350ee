use Rattle.std.proofs.Common.{rules}
use Rattle.hprof_values.proofs.number.split_u32.Goals as goal

pub returns-clause-len : goal.returns-clause-len
returns-clause-len c = search rules

pub returns-clause-number : goal.returns-clause-number
returns-clause-number c = search rules

pub returns-clause-rest : goal.returns-clause-rest
returns-clause-rest c = search rules
