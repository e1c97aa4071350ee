use Rattle.std.proofs.Common.{rules}
use Rattle.hprof_values.specs.Entries.{entry_end}
use Rattle.hprof_values.proofs.entry.entry_end.Goals as goal

pub returns-in_default-clause-end : goal.returns-in_default-clause-end
unfolding entry_end
returns-in_default-clause-end c = search rules
