use Rattle.std.proofs.Common.{arith}
use Rattle.hprof_heap.specs.HeapFacts.{facts_of}
use Rattle.hprof_naming.proofs.FirstNamed.{ends_here, goes_on}
use Rattle.hprof_naming.proofs.object_text.first_named.Goals as goal

pub returns-then-is_named : goal.returns-then-is_named
returns-then-is_named c =
    ends_here (facts_of c.args.heap.now) c.args.word.now c.args.values.now c.loop-value.value-index _ c.loop-value.invariant (omega arith)
    (c.is_named.ensures.yes c.if-is_named.true)

pub loop-value-preserved : goal.loop-value-preserved
loop-value-preserved c =
    goes_on (facts_of c.args.heap.now) c.args.word.now c.args.values.now c.loop-value.value-index _ c.loop-value.invariant (omega arith)
    (c.is_named.ensures.no c.if-is_named.false)
