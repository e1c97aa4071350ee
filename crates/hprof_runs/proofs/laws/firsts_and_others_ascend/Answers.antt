use Rattle.hprof_runs.specs.PickedAscend.{firsts_of-ascends, others_of-ascends}
use Rattle.hprof_runs.proofs.laws.firsts_and_others_ascend.Goals as goal

pub returns-clause-firsts : goal.returns-clause-firsts
returns-clause-firsts c = firsts_of-ascends

pub returns-clause-others : goal.returns-clause-others
returns-clause-others c = others_of-ascends
