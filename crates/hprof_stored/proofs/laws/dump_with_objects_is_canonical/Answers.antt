use Rattle.hprof_stored.proofs.Dumped.{dump_of_all}
use Rattle.hprof_stored.proofs.laws.dump_with_objects_is_canonical.Goals as goal

pub returns : goal.returns
returns c = dump_of_all
