use Rattle.hprof_heap.proofs.ObjectFacts.{is_object_fact}
use Rattle.hprof_heap.proofs.objects.to_object_dump.Goals as goal

pub returns-in_default-clause-none : goal.returns-in_default-clause-none
returns-in_default-clause-none c = λ object is.
    is_object_fact object c.args.fact.now is c.in_default.not-Instance c.in_default.not-ObjArray c.in_default.not-PrimArray
