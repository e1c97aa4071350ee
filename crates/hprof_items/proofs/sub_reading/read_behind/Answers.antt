use Rattle.std.proofs.Common.{rules}
use Rattle.hprof_items.proofs.sub_reading.read_behind.Goals as goal

pub returns-in-InstanceDump-clause-fact : goal.returns-in-InstanceDump-clause-fact
returns-in-InstanceDump-clause-fact c = search rules
