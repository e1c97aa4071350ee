use Rattle.std.proofs.Common.{rules}
use Rattle.hprof_items.specs.RecordBody.{record_at}
use Rattle.hprof_items.proofs.record_reading.fact_in.Goals as goal

pub returns-in-EndThread-clause-exact : goal.returns-in-EndThread-clause-exact
unfolding record_at
returns-in-EndThread-clause-exact c = search rules

pub returns-in-Utf8-clause-exact : goal.returns-in-Utf8-clause-exact
unfolding record_at
returns-in-Utf8-clause-exact c = search rules
