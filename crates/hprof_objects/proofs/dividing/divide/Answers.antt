use Rattle.std.proofs.Common.{◌<◌, List, length, subst, sym, ap, arith}
use Rattle.std.proofs.lemmas.Bool.{eqb-false, eqb-true}
use Rattle.std.proofs.lemmas.List.{length-drop, nil_from_length}
use Rattle.hprof_objects.specs.declared.any_cut.AnyCut.{AnyCut}
use Rattle.hprof_objects.specs.DividedCuts.{AreDivided}
use Rattle.hprof_objects.proofs.Apart.{counted_all, counted_more}
use Rattle.hprof_objects.proofs.dividing.divide.Goals as goal

pub loop-rest-smaller : goal.loop-rest-smaller
loop-rest-smaller c =
    let ne = eqb-false (length c.loop-rest.rest.now) 0 (sym c.loop-rest-test.ensures) in
    let some : 0 < length c.loop-rest.rest.now = omega (arith, ne) in
    omega (
      arith,
      c.apart_count-count.ensures.some some,
      c.apart_count-count.ensures.within,
      ap (λ (l : List AnyCut). length l) c.split_at.ensures.back,
      length-drop c.apart_count-count.result c.loop-rest.rest.now,
    )

pub loop-rest-preserved : goal.loop-rest-preserved
loop-rest-preserved c = λ more divided.
    let now = c.loop-rest in
    counted_more c.args.cuts.now now.rest.now now.counts.items c.push.new.self.items c.apart_count-count.result now.invariant
    c.apart_count-count.ensures.within c.apart_count-count.ensures.apart c.in_ok-push.ensures.items more
    (subst (λ (l : List AnyCut). AreDivided l more) c.split_at.ensures.back divided)

pub returns : goal.returns
returns c =
    let none = nil_from_length c.loop-rest.rest.now (eqb-true (length c.loop-rest.rest.now) 0 (sym c.loop-rest-test.ensures)) in
    counted_all c.args.cuts.now c.loop-rest.rest.now c.loop-rest.counts.items c.loop-rest.invariant none
