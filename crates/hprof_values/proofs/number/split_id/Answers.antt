use Rattle.std.proofs.Common.{rules}
use Rattle.hprof_values.proofs.number.split_id.Goals as goal

pub returns-clause-id : goal.returns-clause-id
returns-clause-id c = search rules

pub returns-clause-len : goal.returns-clause-len
returns-clause-len c = search rules

pub returns-clause-rest : goal.returns-clause-rest
returns-clause-rest c = search rules
