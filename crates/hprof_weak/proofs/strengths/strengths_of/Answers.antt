use Rattle.std.proofs.lemmas.List.{drop_all}
use Rattle.std.proofs.Common.{◌≤◌, length, arith}
use Rattle.std.proofs.lemmas.List.{length-map}
use Rattle.hprof_heap.specs.HeapFacts.{facts_of}
use Rattle.hprof_layouts.specs.WaitingLists.{waiting_for}
use Rattle.hprof_weak.specs.declared.strengths.Strength.{Strength}
use Rattle.hprof_weak.specs.Strengths.{classes_in, strengths_in}
use Rattle.hprof_weak.proofs.Standing.{stands_begin, stands_last}
use Rattle.hprof_weak.proofs.strengths.strengths_of.Goals as goal

pub loop-place-init : goal.loop-place-init
loop-place-init c =
    stands_begin (facts_of c.args.heap.now) c.in_ok-strengths.strengths (waiting_for c.in_ok-subclasses.subclasses)
    c.in_ok-strengths.ensures c.in_ok-subclasses.ensures

pub returns : goal.returns
returns c =
    let strengths = c.loop-place.strengths in
    let len = strengths.order.ok.0 in
    let len_is = c.len.ensures in
    let test = c.loop-place-test.false in
    let counted = length-map (strengths_in strengths) (λ (s : Strength). s.class) in
    let past : length (classes_in strengths) ≤ c.loop-place.place = omega (arith, counted) in
    stands_last (facts_of c.args.heap.now) strengths (waiting_for c.loop-place.subclasses) c.loop-place.place c.loop-place.invariant
    (drop_all c.loop-place.place (classes_in strengths) past)
