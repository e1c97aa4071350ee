use Rattle.hprof_objects.proofs.WholeHeap.{objects_of_union, whole_told}
use Rattle.hprof_objects.proofs.laws.objects_stand_behind.Goals as goal

pub returns-clause-objects : goal.returns-clause-objects
returns-clause-objects c = objects_of_union

pub returns-clause-heap : goal.returns-clause-heap
returns-clause-heap c = λ parts heap rows objects told fit union are. whole_told parts heap told fit rows objects union are
