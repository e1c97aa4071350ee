use Rattle.hprof_engine.proofs.Outcomes.{some_outcome, one_outcome}
use Rattle.hprof_engine.proofs.laws.parts_come_to_one_thing.Goals as goal

pub returns-clause-some : goal.returns-clause-some
returns-clause-some c = some_outcome

pub returns-clause-one : goal.returns-clause-one
returns-clause-one c = one_outcome
