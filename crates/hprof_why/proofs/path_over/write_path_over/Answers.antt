use Rattle.std.proofs.Common.{Err, Ok, Result}
use Rattle.hprof_engine.specs.declared.product.ProductFault.{ProductFault}
use Rattle.hprof_heap.specs.HeapFacts.{facts_of, size_of}
use Rattle.hprof_lines.proofs.PassedEnds.{ends_passed}
use Rattle.hprof_reports.specs.PathText.{IsPathText}
use Rattle.hprof_why.proofs.path_over.write_path_over.Goals as goal

pub returns-in-Ok-outcome-clause-ends : goal.returns-in-Ok-outcome-clause-ends
returns-in-Ok-outcome-clause-ends g c =
    let ids = size_of c.args.heap.now in
    let facts = facts_of c.args.heap.now in
    let objects = c.args.objects.now in
    let answer : Result (Unit {0}) ProductFault = Ok c.in-Ok-outcome.field-0 in
    ends_passed (g.O.Objects.make_up objects ids facts) (g.O.Objects.agree objects ids facts) (g.O.Objects.tells objects ids facts)
    (λ all. IsPathText ids all c.args.id) g.W.Target.written g.W.Target.health c.args.target.now c.write_path-outcome.new.target answer
    c.in-Ok.ensures.reach.0 (λ all make. c.in-Ok-outcome.ensures.bytes ids all (c.in-Ok.ensures.reach.1 all make))
    c.in-Ok-outcome.ensures.health

pub returns-in-Err-outcome-clause-ends : goal.returns-in-Err-outcome-clause-ends
returns-in-Err-outcome-clause-ends g c =
    let ids = size_of c.args.heap.now in
    let facts = facts_of c.args.heap.now in
    let objects = c.args.objects.now in
    let answer : Result (Unit {0}) ProductFault = Err c.in-Err-outcome.stop in
    ends_passed (g.O.Objects.make_up objects ids facts) (g.O.Objects.agree objects ids facts) (g.O.Objects.tells objects ids facts)
    (λ all. IsPathText ids all c.args.id) g.W.Target.written g.W.Target.health c.args.target.now c.write_path-outcome.new.target answer
    c.in-Ok.ensures.reach.0 (λ all make. c.in-Err-outcome.ensures.bytes ids all (c.in-Ok.ensures.reach.1 all make))
    c.in-Err-outcome.ensures.health
