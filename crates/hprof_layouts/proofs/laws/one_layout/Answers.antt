use Rattle.hprof_heap.proofs.ClassFacts.{one_dump_each}
use Rattle.hprof_layouts.proofs.Layouts.{at_most_one, at_least_one}
use Rattle.hprof_layouts.proofs.laws.one_layout.Goals as goal

pub returns-clause-exists : goal.returns-clause-exists
returns-clause-exists c = at_least_one

pub returns-clause-once : goal.returns-clause-once
returns-clause-once c = λ facts class one other agree. at_most_one facts class one other (one_dump_each facts agree)
