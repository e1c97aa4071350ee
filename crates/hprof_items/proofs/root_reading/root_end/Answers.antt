use Rattle.std.proofs.Common.{rules}
use Rattle.hprof_items.proofs.root_reading.root_end.Goals as goal

pub returns-in-RootNativeStack : goal.returns-in-RootNativeStack
returns-in-RootNativeStack c = search rules
