use Rattle.std.proofs.Common.{rules}
use Rattle.hprof_items.proofs.head.Head.kind.Goals as goal

pub returns-in_default-3 : goal.returns-in_default-3
returns-in_default-3 c = search rules
