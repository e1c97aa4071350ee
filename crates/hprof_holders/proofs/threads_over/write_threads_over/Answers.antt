use Rattle.std.proofs.Common.{Err, Ok, Result}
use Rattle.hprof_engine.specs.declared.product.ProductFault.{ProductFault}
use Rattle.hprof_heap.specs.HeapFacts.{facts_of, size_of}
use Rattle.hprof_lines.proofs.PassedEnds.{ends_passed}
use Rattle.hprof_lines.specs.Stopping.{WritesText}
use Rattle.hprof_holders.specs.ThreadsText.{IsThreadsText}
use Rattle.hprof_holders.proofs.ThreadsInAll.{threads_over}
use Rattle.hprof_holders.proofs.threads_over.write_threads_over.Goals as goal

pub returns-in-Ok-write_threads : goal.returns-in-Ok-write_threads
returns-in-Ok-write_threads g c =
    let ids = size_of c.args.heap.now in
    let facts = facts_of c.args.heap.now in
    let objects = c.args.objects.now in
    let old = g.W.Target.written c.args.target.now in
    let new = g.W.Target.written c.write_threads.new.target in
    let answer : Result (Unit {0}) ProductFault = Ok c.in-Ok-write_threads.field-0 in
    ends_passed (g.O.Objects.make_up objects ids facts) (g.O.Objects.agree objects ids facts) (g.O.Objects.tells objects ids facts)
    (IsThreadsText ids) g.W.Target.written g.W.Target.health c.args.target.now c.write_threads.new.target answer
    c.in-Ok.ensures.0
    (λ all make. threads_over ids facts all (g.met.O.Objects.whole objects ids facts all make) c.in-Ok.small
    (WritesText old new answer) (c.in-Ok.ensures.1 all make) c.in-Ok-write_threads.ensures.bytes)
    c.in-Ok-write_threads.ensures.health

pub returns : goal.returns
returns g c =
    let ids = size_of c.args.heap.now in
    let facts = facts_of c.args.heap.now in
    let objects = c.args.objects.now in
    let old = g.W.Target.written c.args.target.now in
    let new = g.W.Target.written c.write_threads.new.target in
    let answer : Result (Unit {0}) ProductFault = Err c.in-Err-write_threads.stop in
    ends_passed (g.O.Objects.make_up objects ids facts) (g.O.Objects.agree objects ids facts) (g.O.Objects.tells objects ids facts)
    (IsThreadsText ids) g.W.Target.written g.W.Target.health c.args.target.now c.write_threads.new.target answer
    c.in-Ok.ensures.0
    (λ all make. threads_over ids facts all (g.met.O.Objects.whole objects ids facts all make) c.in-Ok.small
    (WritesText old new answer) (c.in-Ok.ensures.1 all make) c.in-Err-write_threads.ensures.bytes)
    c.in-Err-write_threads.ensures.health
