use Rattle.std.proofs.Common.{rules}
use Rattle.hprof_values.proofs.number.id_at.Goals as goal

pub returns-in-Eight : goal.returns-in-Eight
returns-in-Eight c = search rules

pub returns-in-Four : goal.returns-in-Four
returns-in-Four c = search rules
