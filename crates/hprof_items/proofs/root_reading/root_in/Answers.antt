use Rattle.std.proofs.Common.{rules}
use Rattle.hprof_items.proofs.root_reading.root_in.Goals as goal

pub returns-in-RootJniLocal : goal.returns-in-RootJniLocal
returns-in-RootJniLocal c = search rules
