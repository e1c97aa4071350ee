use Rattle.hprof_engine.proofs.Dumps.{state_of_set}
use Rattle.hprof_engine.proofs.Outcomes.{same_outcome, cut_outcome}
use Rattle.hprof_engine.proofs.laws.order_repetition_and_cutting_do_not_matter.Goals as goal

pub returns-clause-order : goal.returns-clause-order
returns-clause-order c = same_outcome

pub returns-clause-cutting : goal.returns-clause-cutting
returns-clause-cutting c = cut_outcome

pub returns-clause-state : goal.returns-clause-state
returns-clause-state c = state_of_set
