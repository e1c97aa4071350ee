use Rattle.hprof_heap.specs.HeapFacts.{facts_of, size_of}
use Rattle.hprof_keeps.proofs.Texts.{class_dumped}
use Rattle.hprof_keeps.proofs.kept.is_dumped.Goals as goal

pub returns-then-is_some : goal.returns-then-is_some
returns-then-is_some c = (
  λ told. class_dumped (size_of c.args.heap.now) (facts_of c.args.heap.now) c.args.id c.find_class.result c.find_class.ensures
      c.is_some.result c.is_some.ensures told,
  λ dumped. c.if-is_some.true,
)
