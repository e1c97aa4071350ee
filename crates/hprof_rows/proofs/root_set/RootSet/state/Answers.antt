use Rattle.std.proofs.Common.{rules}
use Rattle.hprof_rows.proofs.root_set.RootSet.state.Goals as goal

pub returns-in-Ok-false-clause-ok : goal.returns-in-Ok-false-clause-ok
returns-in-Ok-false-clause-ok c = search rules
