use Rattle.hprof_objects.proofs.InOrder.{objects_in_order}
use Rattle.hprof_objects.proofs.laws.objects_in_order_are_their_union.Goals as goal

pub returns : goal.returns
returns c = objects_in_order
