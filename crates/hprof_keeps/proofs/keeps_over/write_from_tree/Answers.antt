use Rattle.std.proofs.Common.{Err, List, Ok, Result, ℕ, subst}
use Rattle.hprof_engine.specs.declared.product.ProductFault.{ProductFault}
use Rattle.hprof_heap.specs.HeapFacts.{facts_of, size_of}
use Rattle.hprof_lines.proofs.PassedEnds.{ends_passed}
use Rattle.hprof_lines.specs.Stopping.{WritesText}
use Rattle.hprof_keeps.specs.Kept.{IsNamedHeap, above_places, nodes_at}
use Rattle.hprof_keeps.specs.KeepsText.{IsKeepsText}
use Rattle.hprof_keeps.proofs.NamedNodes.{keeps_over}
use Rattle.hprof_keeps.proofs.keeps_over.write_from_tree.Goals as goal

pub returns-in-Ok-write_in_memory : goal.returns-in-Ok-write_in_memory
returns-in-Ok-write_in_memory g c =
    let ids = size_of c.args.heap.now in
    let facts = facts_of c.args.heap.now in
    let objects = c.args.objects.now in
    let old = g.W.Target.written c.args.target.now in
    let new = g.W.Target.written c.write_in_memory.new.target in
    let retained = c.args.made.now.retained in
    let kept = c.args.made.now.kept in
    let small = c.in-Ok.small in
    let answer : Result (Unit {0}) ProductFault = Ok c.in-Ok-write_in_memory.field-0 in
    ends_passed (g.O.Objects.make_up objects ids facts) (g.O.Objects.agree objects ids facts) (g.O.Objects.tells objects ids facts)
    (λ all. IsKeepsText ids all c.args.id) g.W.Target.written g.W.Target.health c.args.target.now c.write_in_memory.new.target answer
    c.requires.agree
    (λ all make.
    let made = c.requires.made all make in
    let named = subst (λ (places : List ℕ). IsNamedHeap ids (nodes_at retained (above_places kept)) (nodes_at retained places) all small)
    c.below_of.ensures
    (subst (λ (places : List ℕ). IsNamedHeap ids (nodes_at retained places) (nodes_at retained c.below_of.result.now) all small)
    c.above_of.ensures (c.in-Ok.ensures.1 all make)) in
    keeps_over ids facts all (g.met.O.Objects.whole objects ids facts all make) small retained c.args.id kept (WritesText old new answer)
    made.0 made.1 named c.in-Ok-write_in_memory.ensures.bytes)
    c.in-Ok-write_in_memory.ensures.health

pub returns : goal.returns
returns g c =
    let ids = size_of c.args.heap.now in
    let facts = facts_of c.args.heap.now in
    let objects = c.args.objects.now in
    let old = g.W.Target.written c.args.target.now in
    let new = g.W.Target.written c.write_in_memory.new.target in
    let retained = c.args.made.now.retained in
    let kept = c.args.made.now.kept in
    let small = c.in-Ok.small in
    let answer : Result (Unit {0}) ProductFault = Err c.in-Err-write_in_memory.stop in
    ends_passed (g.O.Objects.make_up objects ids facts) (g.O.Objects.agree objects ids facts) (g.O.Objects.tells objects ids facts)
    (λ all. IsKeepsText ids all c.args.id) g.W.Target.written g.W.Target.health c.args.target.now c.write_in_memory.new.target answer
    c.requires.agree
    (λ all make.
    let made = c.requires.made all make in
    let named = subst (λ (places : List ℕ). IsNamedHeap ids (nodes_at retained (above_places kept)) (nodes_at retained places) all small)
    c.below_of.ensures
    (subst (λ (places : List ℕ). IsNamedHeap ids (nodes_at retained places) (nodes_at retained c.below_of.result.now) all small)
    c.above_of.ensures (c.in-Ok.ensures.1 all make)) in
    keeps_over ids facts all (g.met.O.Objects.whole objects ids facts all make) small retained c.args.id kept (WritesText old new answer)
    made.0 made.1 named c.in-Err-write_in_memory.ensures.bytes)
    c.in-Err-write_in_memory.ensures.health
