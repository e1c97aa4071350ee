use Rattle.std.proofs.Common.{rules}
use Rattle.hprof_items.proofs.record_reading.read_body_into.Goals as goal

pub returns-clause-exact : goal.returns-clause-exact
returns-clause-exact c = search rules

pub returns-clause-found : goal.returns-clause-found
returns-clause-found c = search rules

pub returns-clause-only : goal.returns-clause-only
returns-clause-only c = search rules
