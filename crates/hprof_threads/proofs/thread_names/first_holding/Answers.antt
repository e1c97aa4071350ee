use Rattle.std.proofs.Common.{arith}
use Rattle.hprof_heap.specs.HeapFacts.{facts_of}
use Rattle.hprof_threads.proofs.FirstHolding.{begins, ends_here, goes_on}
use Rattle.hprof_threads.proofs.thread_names.first_holding.Goals as goal

pub loop-value-init : goal.loop-value-init
loop-value-init c = λ are. begins (facts_of c.args.heap.now) c.args.values.now

pub returns-then-holds_name : goal.returns-then-holds_name
returns-then-holds_name c = λ are.
    ends_here (facts_of c.args.heap.now) c.args.values.now c.loop-value.value-index _ (c.loop-value.invariant are) (omega arith)
    (c.holds_name.ensures.yes are c.if-holds_name.true)

pub loop-value-preserved : goal.loop-value-preserved
loop-value-preserved c = λ are.
    goes_on (facts_of c.args.heap.now) c.args.values.now c.loop-value.value-index _ (c.loop-value.invariant are) (omega arith)
    (c.holds_name.ensures.no are c.if-holds_name.false)
