use Rattle.hprof_heap.specs.HeapFacts.{facts_of}
use Rattle.hprof_naming.proofs.CalledClasses.{not_called}
use Rattle.hprof_naming.proofs.called.is_called.Goals as goal

pub returns-in-Some-clause-no : goal.returns-in-Some-clause-no
returns-in-Some-clause-no c = λ are no.
    not_called (facts_of c.args.heap.now) c.holds_of_heap.ensures.agree c.args.word.now c.args.class c.in-Some.name
    (c.in-Some.ensures (facts_of c.args.heap.now) are) (c.is_named.ensures.no no)
