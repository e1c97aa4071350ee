use Rattle.hprof_engine.proofs.Dumps.{same_dumps}
use Rattle.hprof_engine.proofs.laws.equal_dumps_equal_facts.Goals as goal

pub returns : goal.returns
returns c = same_dumps
