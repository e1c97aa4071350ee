use Rattle.hprof_dump.proofs.Packing.{packed_once, packed_is}
use Rattle.hprof_dump.proofs.laws.sub_records_are_packed_in_one_way.Goals as goal

pub returns-clause-once : goal.returns-clause-once
returns-clause-once c = λ size most. packed_once size most

pub returns-clause-greedy : goal.returns-clause-greedy
returns-clause-greedy c = λ size most. packed_is size most
