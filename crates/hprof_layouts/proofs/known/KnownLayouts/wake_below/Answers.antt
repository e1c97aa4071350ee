use Rattle.std.specs.Vec.Iter.{into_iter_items}
use Rattle.std.proofs.Math.Path.{fun_ext}
use Rattle.std.proofs.Common.{◌≡◌, ℕ, ◌∷◌, List, [], length, Some, refl, sym, ap, subst, ◌∙◌, arith}
use Rattle.hprof_tables.specs.HintedMap.{value_in}
use Rattle.hprof_layouts.specs.declared.known.KnownLayouts.{KnownLayouts}
use Rattle.hprof_layouts.specs.declared.known.Waiting.{Waiting}
use Rattle.hprof_layouts.specs.Plan.{IsOutline, IsPlanBelow}
use Rattle.hprof_layouts.specs.Known.{plan_of, waiting_below}
use Rattle.hprof_layouts.specs.WaitingLists.{put}
use Rattle.hprof_layouts.proofs.Hands.{InHand, hand_begins, hand_ends, hand_more, none_in_hand}
use Rattle.hprof_layouts.proofs.Outlines.{no_elements}
use Rattle.hprof_layouts.proofs.Wakings.{put-here, put-same, ready_outline}
use Rattle.hprof_layouts.proofs.known.KnownLayouts.wake_below.Goals as goal

pub returns-in_default-take-clause-ok : goal.returns-in_default-take-clause-ok
returns-in_default-take-clause-ok c = λ ids facts before pending ready waking.
    let known = c.args.self.now in
    let other : KnownLayouts = record known { waiting = c.take.new.self } in
    let none = c.in_default-take.ensures.none in
    none_in_hand ids facts before c.args.class pending c.args.woken.now.items known other refl
    (c.in_default-take.ensures.taken ∙ put-same (waiting_below known) c.args.class [] none) none waking

pub returns-in_default-take-clause-counted : goal.returns-in_default-take-clause-counted
returns-in_default-take-clause-counted c =
    let none = ap (λ (l : List Waiting). length l) c.in_default-take.ensures.none in
    let counted = c.in_default-take.ensures.counted in
    omega arith

pub loop-below-init : goal.loop-below-init
loop-below-init c =
    let known = c.args.self.now in
    let other : KnownLayouts = record known { waiting = c.take.new.self } in
    let taken = c.in-Some-take.ensures.taken in
    let list : waiting_below known c.args.class ≡ c.in-Some-take.waiting.items = sym c.in-Some-take.ensures.some in
    let given : waiting_below known c.args.class ≡ into_iter_items c.into_iter-below-iterator.result =
    list ∙ sym c.into_iter-below-iterator.ensures.into_iter_gives.0 in
    let lengths = ap (λ (l : List Waiting). length l) given in
    let counted = c.in-Some-take.ensures.counted in
    record {
      taken = ap (λ (w : ℕ → List Waiting). w c.args.class) taken ∙ put-here (waiting_below known) c.args.class [] c.args.class refl;
      counted = omega arith;
      hand = λ ids facts before pending ready waking.
          hand_begins ids facts before c.args.class pending c.args.woken.now.items (plan_of known) (waiting_below known)
          (waiting_below other) (into_iter_items c.into_iter-below-iterator.result) taken given waking.standing waking.woke;
    }

pub loop-below-preserved : goal.loop-below-preserved
loop-below-preserved c =
    let was = c.loop-below.invariant in
    let steps = c.in-Some-2.ensures.steps in
    let first : Waiting = c.in-Some-2.field-0 in
    let later = into_iter_items c.next.new.self in
    let plan = c.in_ok-plan.plan in
    let plans : value_in c.insert.new.self ≡ put (plan_of c.loop-below.self) first.class (Some plan) =
    fun_ext (λ at. c.in_ok-insert.ensures.ok at) in
    let lengths = ap (λ (l : List Waiting). length l) steps.0 in
    let pushed = c.in_ok-push.ensures.len in
    let counted = was.counted in
    record {
      taken = was.taken;
      counted = omega arith;
      hand = λ ids facts before pending ready waking.
          let above = ready_outline ids facts (plan_of c.args.self.now) (waiting_below c.args.self.now) (c.args.class ∷ pending)
          waking.standing c.args.class ready in
          let outline : IsOutline ids facts above.slots c.in-Some.outline =
          subst (IsOutline ids facts above.slots) (sym c.in-Some.ensures.some) above.outline_are in
          let hand = was.hand ids facts before pending ready waking in
          let below : IsPlanBelow ids facts above.slots first.own plan =
          c.in_ok-plan.ensures ids facts above.slots
          (record { each = hand.standing.each; plans_are = hand.standing.plans_are }) outline in
          subst (λ (l : List ℕ). InHand ids facts before c.args.class pending c.args.woken.now.items (value_in c.insert.new.self)
          (waiting_below c.loop-below.self) l later) (sym c.in_ok-push.ensures.items)
          (hand_more ids facts before c.args.class pending c.args.woken.now.items (plan_of c.loop-below.self)
          (value_in c.insert.new.self) (waiting_below c.loop-below.self) c.loop-below.woken.items
          (into_iter_items c.loop-below.below-iterator) later first above.slots plan above.known below hand steps.0 plans);
    }

pub returns-clause-ok : goal.returns-clause-ok
returns-clause-ok c = λ ids facts before pending ready waking.
    let hand = c.loop-below.invariant.hand ids facts before pending ready waking in
    let len = c.loop-below.below-iterator.rest.ok.0 in
    let ended = c.in-None.ensures.steps.0 in
    let none : into_iter_items c.loop-below.below-iterator ≡ [] = no_elements (into_iter_items c.loop-below.below-iterator) (omega arith) in
    hand_ends ids facts before c.args.class pending c.args.woken.now.items c.loop-below.self c.loop-below.woken.items
    (subst (InHand ids facts before c.args.class pending c.args.woken.now.items (plan_of c.loop-below.self)
    (waiting_below c.loop-below.self) c.loop-below.woken.items) none hand) c.loop-below.invariant.taken
