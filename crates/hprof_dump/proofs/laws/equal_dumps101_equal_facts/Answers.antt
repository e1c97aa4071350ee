use Rattle.hprof_dump.proofs.ReadsBack.{same_dumps}
use Rattle.hprof_dump.proofs.laws.equal_dumps101_equal_facts.Goals as goal

pub returns : goal.returns
returns c = same_dumps
