use Rattle.std.proofs.Common.{◌≡◌, ◌+◌, ◌++◌, ◌∷◌, [], ℕ, List, length, take, ap, subst, sym, ◌∙◌, arith}
use Rattle.std.proofs.lemmas.List.{take_more}
use Rattle.hprof_objects.specs.declared.any_cut.AnyCut.{AnyCut}
use Rattle.hprof_objects.specs.AnyCuts.{AreApart}
use Rattle.hprof_objects.proofs.Apart.{ApartTo, apart_all, apart_first, apart_more}
use Rattle.hprof_objects.proofs.LookedUp.{first_is}
use Rattle.hprof_objects.proofs.dividing.apart_count.Goals as goal

pub loop-index-init : goal.loop-index-init
loop-index-init c =
    let first = first_is c.args.cuts.now c.in-Some.first.now c.in-Some.ensures.value in
    subst (ApartTo (take 1 c.args.cuts.now)) (sym c.last-last.ensures)
    (apart_first c.args.cuts.now c.in-Some.first.now first.0 first.1)

pub returns-then-first-last-clause-apart : goal.returns-then-first-last-clause-apart
returns-then-first-last-clause-apart c = apart_all (take c.loop-index.index c.args.cuts.now) c.loop-index.last c.loop-index.invariant

pub loop-index-preserved : goal.loop-index-preserved
loop-index-preserved c =
    let cuts = c.args.cuts.now in
    let now = c.loop-index in
    let cut = c.index-cuts-index.result in
    let taken : take (now.index + 1) cuts ≡ take now.index cuts ++ cut ∷ [] =
    take_more cuts now.index cut c.loop-index-test.true
    ∙ ap (λ (one : AnyCut). take now.index cuts ++ one ∷ []) (sym c.index-cuts-index.is) in
    subst (λ (l : List AnyCut). ApartTo l c.last-last-in-loop-index.result) (sym taken)
    (subst (ApartTo (take now.index cuts ++ cut ∷ [])) (sym c.last-last-in-loop-index.ensures)
    (apart_more (take now.index cuts) now.last cut now.invariant (omega (arith, c.if-first-last.false, c.first-in-loop-index.ensures))
    (omega (arith, c.if-last-first.false, c.last.ensures, c.first-else-first-last.ensures))))

pub returns-clause-apart : goal.returns-clause-apart
returns-clause-apart c =
    let cuts = c.args.cuts.now in
    let now = c.loop-index in
    let some = ap (λ (l : List AnyCut). length l) (first_is cuts c.in-Some.first.now c.in-Some.ensures.value).1 in
    let all : now.index ≡ length cuts = omega (arith, c.loop-index-test.false, now.auto.index-end, some) in
    subst (λ (n : ℕ). AreApart (take n cuts)) all (apart_all (take now.index cuts) now.last now.invariant)
