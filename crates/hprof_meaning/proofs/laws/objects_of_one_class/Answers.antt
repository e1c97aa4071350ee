use Rattle.hprof_meaning.proofs.ObjectsInOrder.{same_list}
use Rattle.hprof_meaning.proofs.laws.objects_of_one_class.Goals as goal

pub returns : goal.returns
returns c = same_list
