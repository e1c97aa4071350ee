use Rattle.std.proofs.Common.{rules}
use Rattle.hprof_items.specs.RecordBody.{record_at}
use Rattle.hprof_items.proofs.record_reading.read_trace.Goals as goal

pub returns-clause-exact : goal.returns-clause-exact
unfolding record_at
returns-clause-exact c = search rules

pub returns-then-rest-ids_len-clause-exact : goal.returns-then-rest-ids_len-clause-exact
unfolding record_at
returns-then-rest-ids_len-clause-exact c = search rules
