use Rattle.std.proofs.Common.{◌+◌, ◌∙◌, ℕ, List, ap, sym, subst, replicate, arith}
use Rattle.hprof_numbers.specs.Numbers.{items_in}
use Rattle.hprof_suspects.specs.Heads.{HeadsFit}
use Rattle.hprof_suspects.proofs.HeadsSoFar.{AreHeadsTo, fit_begin, fit_more, heads_begin, heads_end, heads_more}
use Rattle.hprof_suspects.proofs.heads.heads_of.Goals as goal

pub loop-place-init : goal.loop-place-init
loop-place-init c =
    let retained = c.args.retained.now in
    let zeros = c.in_ok-heads.ensures.items ∙ ap (λ n. replicate n 0) c.len.ensures in
    let some = retained.numbered.some in
    record {
      fits = omega (arith, c.in_ok-heads.ensures.bound, c.len-2.ensures);
      fit = fit_begin retained (items_in c.in_ok-heads.heads) zeros (omega arith);
      heads = λ ids facts grounds. heads_begin ids facts retained (items_in c.in_ok-heads.heads) zeros (omega arith);
    }

pub loop-place-preserved : goal.loop-place-preserved
loop-place-preserved c =
    let retained = c.args.retained.now in
    let so = c.loop-place.invariant in
    let low = c.head_of-head.ensures.low in
    record {
      fits = omega (arith, so.fits, c.set.ensures.bound);
      fit = subst (HeadsFit retained) (sym c.set.ensures.items)
          (fit_more retained (items_in c.loop-place.heads) c.loop-place.place c.head_of-head.result
          (omega (arith, c.loop-place-test.true, c.len-place-end.ensures)) low so.fit);
      heads = λ ids facts grounds.
          subst (λ (h : List ℕ). AreHeadsTo ids facts retained h (c.loop-place.place + 1)) (sym c.set.ensures.items)
          (heads_more ids facts retained (items_in c.loop-place.heads) c.loop-place.place c.head_of-head.result
          (omega (arith, c.loop-place.auto.place)) (omega (arith, c.loop-place-test.true, c.len-place-end.ensures)) retained.falls.less
          (c.head_of-head.ensures.head ids facts grounds) (so.heads ids facts grounds));
    }

pub returns-clause-fit : goal.returns-clause-fit
returns-clause-fit c = c.loop-place.invariant.fit

pub returns-clause-heads : goal.returns-clause-heads
returns-clause-heads c = λ ids facts grounds.
    let end = c.len-place-end.ensures in
    heads_end ids facts c.args.retained.now (items_in c.loop-place.heads) c.loop-place.place
    (omega (arith, end, c.loop-place-test.false, c.loop-place.auto.place-end, c.args.retained.now.numbered.some))
    (c.loop-place.invariant.heads ids facts grounds)
