use Rattle.hprof_layouts.specs.declared.plan.Jump.{Jump}
use Rattle.hprof_layouts.specs.OwnFields.{references_in}
use Rattle.hprof_layouts.specs.References.{wanted_of}
use Rattle.std.proofs.Common.{◌++◌, Option, subst}
use Rattle.hprof_layouts.proofs.Laid.{Laying, lands, lays_last, lays_on}
use Rattle.hprof_layouts.proofs.known.KnownLayouts.lay_above.Goals as goal

pub returns-in_default : goal.returns-in_default
returns-in_default c = λ facts slots knows is fills few.
    let answer = c.args.references.now.items ++ wanted_of c.args.wanted (references_in c.args.ids c.args.place slots c.args.bytes.now) in
    absurd (lands c.args.ids facts c.args.wanted answer c.args.self.now knows c.loop-plan.jump c.loop-plan.rest.now c.loop-plan.before
    c.loop-plan.references.items (c.loop-plan.invariant facts slots knows is fills few) c.in_default.ensures.none)

pub returns-in_default-above : goal.returns-in_default-above
returns-in_default-above c = λ facts slots knows is fills few.
    let answer = c.args.references.now.items ++ wanted_of c.args.wanted (references_in c.args.ids c.args.place slots c.args.bytes.now) in
    lays_last c.args.ids facts c.args.wanted answer c.args.self.now knows c.loop-plan.jump c.loop-plan.rest.now c.loop-plan.before
    c.loop-plan.references.items (c.loop-plan.invariant facts slots knows is fills few) c.in-Some.plan.now c.in-Some.ensures.plan
    c.saturating_add-start.result c.saturating_add-start.ensures c.split_at.result.1.now c.push_references.new.references.items
    c.split_at.ensures.back c.in_ok-push_references.ensures c.in_default-above.is

pub loop-plan-preserved : goal.loop-plan-preserved
loop-plan-preserved c = λ facts slots knows is fills few.
    let answer = c.args.references.now.items ++ wanted_of c.args.wanted (references_in c.args.ids c.args.place slots c.args.bytes.now) in
    let later = c.split_at-in-loop-plan.result.1.now in
    let end = c.saturating_add-before.result in
    let new = c.push_references.new.references.items in
    subst (λ (next : Option Jump). Laying c.args.ids facts c.args.wanted answer next later end new) c.in-Some-above.is
    (lays_on c.args.ids facts c.args.wanted answer c.args.self.now knows c.loop-plan.jump c.loop-plan.rest.now c.loop-plan.before
    c.loop-plan.references.items (c.loop-plan.invariant facts slots knows is fills few) c.in-Some.plan.now c.in-Some.ensures.plan
    c.saturating_add-start.result c.saturating_add-start.ensures c.split_at.result.1.now new c.split_at.ensures.back
    c.in_ok-push_references.ensures later end c.split_at-in-loop-plan.ensures.back c.saturating_add-before.ensures)
