use Rattle.std.proofs.Common.{◌≡◌, Some, None, refl, sym, subst, ◌∙◌}
use Rattle.hprof_layouts.proofs.Maps.{get-updated}
use Rattle.hprof_weak.specs.declared.weak_classes.WeakClasses.{WeakClasses}
use Rattle.hprof_weak.specs.Links.{PushesReferents}
use Rattle.hprof_weak.specs.WeakClasses.{first_of}
use Rattle.hprof_weak.proofs.WeakPuts.{puts_all, puts_some}
use Rattle.hprof_weak.proofs.weak_classes.WeakClasses.put_weak.Goals as goal

pub returns-then-all-clause-puts : goal.returns-then-all-clause-puts
returns-then-all-clause-puts c = λ facts agree were.
    let classes = c.args.self.now in
    let others : WeakClasses = record classes { firsts = c.remove.new.self } in
    let found : first_of classes c.args.class ≡ Some c.in-Some.first = sym c.get.ensures.value ∙ sym c.copied.ensures ∙ c.in-Some.is in
    let is = were.right c.args.class c.in-Some.first found in
    let pushes = subst (λ all. PushesReferents facts c.args.class is.slots c.args.room all c.args.fields.now.items
    c.push_referents.new.fields.items) c.if-all.true (c.in_ok-all.ensures.pushes facts is.slots is.leads) in
    puts_all facts agree c.args.class c.args.room c.in-Some.first classes c.args.fields.now.items c.push_referents.new.fields.items were is
    others refl (get-updated classes.firsts c.remove.new.self c.args.class None c.remove.ensures.updates.0) pushes

pub returns-else-all-clause-puts : goal.returns-else-all-clause-puts
returns-else-all-clause-puts c = λ facts agree were.
    let classes = c.args.self.now in
    let found : first_of classes c.args.class ≡ Some c.in-Some.first = sym c.get.ensures.value ∙ sym c.copied.ensures ∙ c.in-Some.is in
    let is = were.right c.args.class c.in-Some.first found in
    let pushes = subst (λ all. PushesReferents facts c.args.class is.slots c.args.room all c.args.fields.now.items
    c.push_referents.new.fields.items) c.if-all.false (c.in_ok-all.ensures.pushes facts is.slots is.leads) in
    puts_some facts agree c.args.class c.args.room c.in-Some.first classes c.args.fields.now.items c.push_referents.new.fields.items were is
    pushes
