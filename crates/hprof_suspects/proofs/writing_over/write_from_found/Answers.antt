use Rattle.std.proofs.Common.{Err, Ok, Result}
use Rattle.hprof_engine.specs.declared.product.ProductFault.{ProductFault}
use Rattle.hprof_heap.specs.HeapFacts.{facts_of, size_of}
use Rattle.hprof_lines.proofs.PassedEnds.{ends_passed}
use Rattle.hprof_lines.specs.Stopping.{WritesText}
use Rattle.hprof_suspects.specs.SuspectsText.{IsSuspectsText}
use Rattle.hprof_suspects.proofs.SameTold.{suspects_over}
use Rattle.hprof_suspects.proofs.writing_over.write_from_found.Goals as goal

pub returns-in-Ok-write_found : goal.returns-in-Ok-write_found
returns-in-Ok-write_found g c =
    let ids = size_of c.args.heap.now in
    let facts = facts_of c.args.heap.now in
    let objects = c.args.objects.now in
    let old = g.W.Target.written c.args.target.now in
    let new = g.W.Target.written c.write_found.new.target in
    let answer : Result (Unit {0}) ProductFault = Ok c.in-Ok-write_found.field-0 in
    ends_passed (g.O.Objects.make_up objects ids facts) (g.O.Objects.agree objects ids facts) (g.O.Objects.tells objects ids facts)
    (λ all. IsSuspectsText ids all) g.W.Target.written g.W.Target.health c.args.target.now c.write_found.new.target answer
    c.requires.agree
    (λ all make. suspects_over ids facts all c.in-Ok.small c.args.found.now (WritesText old new answer)
    (g.met.O.Objects.whole objects ids facts all make) (c.requires.found all make) (c.in-Ok.ensures.1 all make)
    c.in-Ok-write_found.ensures.bytes)
    c.in-Ok-write_found.ensures.health

pub returns : goal.returns
returns g c =
    let ids = size_of c.args.heap.now in
    let facts = facts_of c.args.heap.now in
    let objects = c.args.objects.now in
    let old = g.W.Target.written c.args.target.now in
    let new = g.W.Target.written c.write_found.new.target in
    let answer : Result (Unit {0}) ProductFault = Err c.in-Err-write_found.stop in
    ends_passed (g.O.Objects.make_up objects ids facts) (g.O.Objects.agree objects ids facts) (g.O.Objects.tells objects ids facts)
    (λ all. IsSuspectsText ids all) g.W.Target.written g.W.Target.health c.args.target.now c.write_found.new.target answer
    c.requires.agree
    (λ all make. suspects_over ids facts all c.in-Ok.small c.args.found.now (WritesText old new answer)
    (g.met.O.Objects.whole objects ids facts all make) (c.requires.found all make) (c.in-Ok.ensures.1 all make)
    c.in-Err-write_found.ensures.bytes)
    c.in-Err-write_found.ensures.health
