use Rattle.std.proofs.Common.{arith}
use Rattle.hprof_heap.specs.HeapFacts.{facts_of}
use Rattle.hprof_suspects.proofs.AloneSoFar.{alone_end}
use Rattle.hprof_suspects.proofs.alone.alone_of.Goals as goal

pub returns-clause-alone : goal.returns-clause-alone
returns-clause-alone c = λ facts agree are has.
    alone_end (facts_of c.args.heap.now) c.args.retained.now c.args.labels.now c.loop-place.alone.items c.loop-place.place
    (omega (arith, c.loop-place-test.false, c.len-place-end.ensures, c.loop-place.auto.place-end, c.args.retained.now.numbered.some))
    c.loop-place.invariant facts agree are has
