use Rattle.hprof_heap.proofs.ClassFacts.{no_class_no_dump}
use Rattle.hprof_heap.proofs.classes.to_class_dump.Goals as goal

pub returns-in_default-clause-none : goal.returns-in_default-clause-none
returns-in_default-clause-none c = no_class_no_dump c.args.fact.now c.in_default.not-Class
