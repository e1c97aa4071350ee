use Rattle.std.proofs.Common.{rules}
use Rattle.hprof_values.proofs.lists.ids.IdList.of_whole.Goals as goal

pub returns-clause-identifiers : goal.returns-clause-identifiers
returns-clause-identifiers c = search rules

pub returns-clause-size : goal.returns-clause-size
returns-clause-size c = search rules
