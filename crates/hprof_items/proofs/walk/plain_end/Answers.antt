use Rattle.std.proofs.Common.{rules}
use Rattle.hprof_items.proofs.walk.plain_end.Goals as goal

pub returns-in-InstanceDump : goal.returns-in-InstanceDump
returns-in-InstanceDump c = search rules
