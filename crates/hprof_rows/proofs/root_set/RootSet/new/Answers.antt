use Rattle.std.proofs.Common.{rules}
use Rattle.hprof_rows.proofs.root_set.RootSet.new.Goals as goal

pub returns : goal.returns
returns c = search rules
