use Rattle.std.proofs.Common.{rules}
use Rattle.hprof_values.proofs.root.Root.tag.Goals as goal

pub returns-in-Sticky : goal.returns-in-Sticky
returns-in-Sticky c = search rules
