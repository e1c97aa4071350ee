use Rattle.std.specs.BTreeMap.{get}
use Rattle.std.specs.Ordering.{nat_cmp}
use Rattle.std.specs.Prelude.{Contains}
use Rattle.std.proofs.lemmas.List.{take_all, take_more}
use Rattle.std.proofs.lemmas.List.Elements.{Contains-get_or}
use Rattle.std.proofs.Common.{List, get_or, take, refl, sym, subst, ◌∙◌}
use Rattle.hprof_heap.proofs.ClassFacts.{one_dump_each}
use Rattle.hprof_weak.specs.declared.strengths.Strength.{Strength}
use Rattle.hprof_weak.specs.Links.{nexts_in}
use Rattle.hprof_weak.specs.Strengths.{class_zero}
use Rattle.hprof_weak.proofs.WeakFirsts.{FirstsSoFar, firsts_of_put, weak_of_all}
use Rattle.hprof_weak.proofs.weak_classes.weak_classes.Goals as goal

pub loop-strength-preserved : goal.loop-strength-preserved
loop-strength-preserved c = λ facts are.
    let items = c.deref-strength-items.result.now in
    let index = c.loop-strength.strength-index in
    let test = c.loop-strength-test.true in
    let nexts = nexts_in c.args.strengths.links in
    let strength = get_or items index class_zero in
    let has = subst (λ (l : List Strength). Contains l strength) c.deref-strength-items.ensures.value
    (Contains-get_or items index class_zero test) in
    subst (λ (l : List Strength). FirstsSoFar facts nexts l (get nat_cmp c.put_first.new.firsts))
    (sym (take_more items index class_zero test))
    (firsts_of_put facts nexts (take index items) (get nat_cmp c.loop-strength.firsts) strength (c.loop-strength.invariant facts are)
    (get nat_cmp c.put_first.new.firsts) (are.right strength has) c.in_ok-put_first.ensures)

pub returns : goal.returns
returns c = λ facts agree are.
    let items = c.deref-strength-items.result.now in
    let all = take_all c.loop-strength.strength-index items c.loop-strength-test.false in
    let so_far = subst (λ (l : List Strength). FirstsSoFar facts (nexts_in c.args.strengths.links) l (get nat_cmp c.loop-strength.firsts))
    (all ∙ c.deref-strength-items.ensures.value) (c.loop-strength.invariant facts are) in
    weak_of_all facts (one_dump_each facts agree) c.args.strengths are
    (record { links = c.args.strengths.links; firsts = c.loop-strength.firsts }) refl so_far
