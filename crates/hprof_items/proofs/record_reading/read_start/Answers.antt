use Rattle.std.proofs.Common.{rules}
use Rattle.hprof_items.specs.RecordBody.{record_at}
use Rattle.hprof_items.proofs.record_reading.read_start.Goals as goal

pub returns-clause-exact : goal.returns-clause-exact
unfolding record_at
returns-clause-exact c = search rules

pub returns-clause-lists : goal.returns-clause-lists
unfolding record_at
returns-clause-lists c = search rules
