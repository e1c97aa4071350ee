use Rattle.std.proofs.Common.{refl}
use Rattle.hprof_heap.specs.HeapFacts.{facts_of}
use Rattle.hprof_meaning.proofs.meant.classes_meant.Goals as goal

pub returns-in-Ok : goal.returns-in-Ok
returns-in-Ok c = λ word meant. (c.in-Ok.ensures.meant word meant).1 (facts_of c.args.heap.now) (record {
  same = refl;
  fit = c.holds_of_heap.ensures.fit;
  ordered = c.holds_of_heap.ensures.ordered;
})
