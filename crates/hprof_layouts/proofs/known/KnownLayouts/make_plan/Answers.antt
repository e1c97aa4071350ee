use Rattle.std.proofs.Common.{◌≡◌, ◌++◌, Some, sym, subst}
use Rattle.hprof_layouts.specs.Layout.{own_slots}
use Rattle.hprof_layouts.specs.Known.{plan_of}
use Rattle.hprof_layouts.specs.Plan.{IsPlan}
use Rattle.hprof_layouts.proofs.KnownPlans.{one_plan}
use Rattle.hprof_layouts.proofs.Outlines.{is_below}
use Rattle.hprof_layouts.proofs.known.KnownLayouts.make_plan.Goals as goal

pub returns-in_default : goal.returns-in_default
returns-in_default c = λ ids facts slots plans outline_are.
    is_below ids facts c.args.own slots c.args.outline c.args.at c.below-plan.result c.below-plan.ensures outline_are

pub returns-in_default-plan_at : goal.returns-in_default-plan_at
returns-in_default-plan_at c = λ ids facts slots plans outline_are.
    is_below ids facts c.args.own slots c.args.outline c.args.at c.below-plan.result c.below-plan.ensures outline_are

pub returns : goal.returns
returns c = λ ids facts slots plans outline_are dump not_zero has own_are known.
    let class = c.in-Some.jump.class in
    let above = c.in-Some-plan_at.above.now in
    let found : plan_of c.args.self.now class ≡ Some above = sym c.in-Some-plan_at.ensures in
    let there = plans.plans_are class above found in
    c.in_ok-join.ensures ids facts dump.id (own_slots dump ++ slots) there.0 plans.each
    (is_below ids facts c.args.own slots c.args.outline c.args.at c.below-plan.result c.below-plan.ensures outline_are dump not_zero has
    own_are known) c.in-Some.is
    (subst (IsPlan ids facts class there.0) (one_plan (plan_of c.args.self.now class) there.1.plan above there.1.found found) there.1.is)
