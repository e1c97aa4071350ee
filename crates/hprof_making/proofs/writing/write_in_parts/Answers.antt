use Rattle.std.proofs.Common.{refl}
use Rattle.hprof_heap.specs.HeapFacts.{facts_of, size_of}
use Rattle.hprof_making.proofs.writing.write_in_parts.Goals as goal

pub returns-in-Err : goal.returns-in-Err
returns-in-Err g c = λ summaries holds. (c.in-Err.ensures.tells (size_of c.args.heap.now) (facts_of c.args.heap.now), refl)
