use Rattle.std.proofs.Common.{refl}
use Rattle.hprof_facts.proofs.Agreeing.{states_before_once}
use Rattle.hprof_facts.proofs.Results.{result_once}
use Rattle.hprof_facts.proofs.laws.bytes_have_one_result.Goals as goal

pub returns-clause-result : goal.returns-clause-result
returns-clause-result c = result_once

pub returns-clause-facts : goal.returns-clause-facts
returns-clause-facts c = λ limits bytes result facts others states too.
    states_before_once limits bytes result result facts others refl states too
