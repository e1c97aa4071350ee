use Rattle.hprof_heap.specs.HeapFacts.{facts_of, size_of}
use Rattle.hprof_threads.proofs.NameAnswers.{name_of_no_text, name_of_zero}
use Rattle.hprof_threads.proofs.thread_names.units_of_text.Goals as goal

pub returns-then-id-eq0 : goal.returns-then-id-eq0
returns-then-id-eq0 c = name_of_zero (size_of c.args.heap.now) (facts_of c.args.heap.now) c.args.id c.if-id-eq0.true

pub returns-in_default : goal.returns-in_default
returns-in_default c =
    name_of_no_text (size_of c.args.heap.now) (facts_of c.args.heap.now) c.args.id _ c.in_ok-units.ensures c.in_default.not-Units
