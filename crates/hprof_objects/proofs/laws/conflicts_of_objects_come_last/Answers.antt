use Rattle.hprof_objects.proofs.WholeHeap.{objects_conflict, others_refuse}
use Rattle.hprof_objects.proofs.laws.conflicts_of_objects_come_last.Goals as goal

pub returns-clause-objects : goal.returns-clause-objects
returns-clause-objects c = λ parts heap key told fit least. objects_conflict parts heap told fit key least

pub returns-clause-others : goal.returns-clause-others
returns-clause-others c = others_refuse
