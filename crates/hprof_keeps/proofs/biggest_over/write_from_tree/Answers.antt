use Rattle.std.proofs.Common.{Err, List, [], Ok, Result, ℕ, subst}
use Rattle.hprof_engine.specs.declared.product.ProductFault.{ProductFault}
use Rattle.hprof_heap.specs.HeapFacts.{facts_of, size_of}
use Rattle.hprof_describe.specs.Findings.{AreFindings, Findings}
use Rattle.hprof_lines.proofs.PassedEnds.{ends_passed}
use Rattle.hprof_lines.specs.Stopping.{WritesText}
use Rattle.hprof_keeps.specs.BiggestText.{IsBiggestText}
use Rattle.hprof_keeps.specs.Chosen.{IsChosen}
use Rattle.hprof_keeps.specs.Kept.{IsNamedHeap, nodes_at}
use Rattle.hprof_keeps.specs.KeepsText.{above_lines}
use Rattle.hprof_keeps.specs.Order.{retained_in}
use Rattle.hprof_keeps.proofs.ChosenLines.{biggest_over}
use Rattle.hprof_keeps.proofs.biggest_over.write_from_tree.Goals as goal

pub returns-in-Ok-write_in_memory : goal.returns-in-Ok-write_in_memory
returns-in-Ok-write_in_memory g c = λ choice tree.
    let ids = size_of c.args.heap.now in
    let facts = facts_of c.args.heap.now in
    let objects = c.args.objects.now in
    let old = g.W.Target.written c.args.target.now in
    let new = g.W.Target.written c.write_in_memory.new.target in
    let retained = c.args.made.now.retained in
    let places = c.args.made.now.places.items in
    let small = c.in-Ok.small in
    let answer : Result (Unit {0}) ProductFault = Ok c.in-Ok-write_in_memory.field-0 in
    ends_passed (g.O.Objects.make_up objects ids facts) (g.O.Objects.agree objects ids facts) (g.O.Objects.tells objects ids facts)
    (λ all. IsBiggestText ids all (IsChosen all choice)) g.W.Target.written g.W.Target.health c.args.target.now
    c.write_in_memory.new.target answer c.requires.agree
    (λ all make.
    let made = tree all make in
    biggest_over ids facts all (g.met.O.Objects.whole objects ids facts all make) small retained choice places (nodes_at retained [])
    (WritesText old new answer) made.0 made.1
    (subst (λ (l : List ℕ). IsNamedHeap ids (nodes_at retained l) (nodes_at retained []) all small) c.deref.ensures.value
    (c.in-Ok.ensures.1 all make))
    (subst (λ (l : List ℕ). (here : Findings) → AreFindings (size_of small) (facts_of small) here
    → WritesText old new answer (above_lines here (retained_in retained) (nodes_at retained l))) c.deref-2.ensures.value
    c.in-Ok-write_in_memory.ensures.bytes))
    c.in-Ok-write_in_memory.ensures.health

pub returns : goal.returns
returns g c = λ choice tree.
    let ids = size_of c.args.heap.now in
    let facts = facts_of c.args.heap.now in
    let objects = c.args.objects.now in
    let old = g.W.Target.written c.args.target.now in
    let new = g.W.Target.written c.write_in_memory.new.target in
    let retained = c.args.made.now.retained in
    let places = c.args.made.now.places.items in
    let small = c.in-Ok.small in
    let answer : Result (Unit {0}) ProductFault = Err c.in-Err-write_in_memory.stop in
    ends_passed (g.O.Objects.make_up objects ids facts) (g.O.Objects.agree objects ids facts) (g.O.Objects.tells objects ids facts)
    (λ all. IsBiggestText ids all (IsChosen all choice)) g.W.Target.written g.W.Target.health c.args.target.now
    c.write_in_memory.new.target answer c.requires.agree
    (λ all make.
    let made = tree all make in
    biggest_over ids facts all (g.met.O.Objects.whole objects ids facts all make) small retained choice places (nodes_at retained [])
    (WritesText old new answer) made.0 made.1
    (subst (λ (l : List ℕ). IsNamedHeap ids (nodes_at retained l) (nodes_at retained []) all small) c.deref.ensures.value
    (c.in-Ok.ensures.1 all make))
    (subst (λ (l : List ℕ). (here : Findings) → AreFindings (size_of small) (facts_of small) here
    → WritesText old new answer (above_lines here (retained_in retained) (nodes_at retained l))) c.deref-2.ensures.value
    c.in-Err-write_in_memory.ensures.bytes))
    c.in-Err-write_in_memory.ensures.health
