use Rattle.std.proofs.lemmas.List.{drop_all}
use Rattle.std.proofs.Common.{◌+◌, ◌<◌, ◌≤◌, length, drop, subst, arith}
use Rattle.hprof_layouts.specs.Waking.{IsWaking}
use Rattle.hprof_layouts.proofs.Hands.{wakes_next, wakes_on}
use Rattle.hprof_layouts.proofs.known.KnownLayouts.wake_all.Goals as goal

pub loop-next-preserved : goal.loop-next-preserved
loop-next-preserved c = λ ids facts before waking.
    let len = c.loop-next.woken.ok.0 in
    let test = c.loop-next-test.true in
    let len_is = c.len.ensures in
    let lt : c.loop-next.next < length c.loop-next.woken.items = omega arith in
    let next = wakes_next ids facts before c.loop-next.self c.loop-next.woken.items c.loop-next.next c.index.result.now lt c.index.ensures
    (c.loop-next.invariant ids facts before waking) in
    wakes_on ids facts before c.wake_below.new.self c.loop-next.woken.items c.wake_below.new.woken.items c.loop-next.next lt
    (c.in_ok-wake_below.ensures.ok ids facts before (drop (c.loop-next.next + 1) c.loop-next.woken.items) next.0 next.1)

pub returns : goal.returns
returns c = λ ids facts before waking.
    let len = c.loop-next.woken.ok.0 in
    let test = c.loop-next-test.false in
    let len_is = c.len.ensures in
    let all : length c.loop-next.woken.items ≤ c.loop-next.next = omega arith in
    subst (IsWaking ids facts before c.loop-next.self c.loop-next.woken.items) (drop_all c.loop-next.next c.loop-next.woken.items all)
    (c.loop-next.invariant ids facts before waking)
