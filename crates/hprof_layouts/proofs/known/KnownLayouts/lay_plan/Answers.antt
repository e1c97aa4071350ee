use Rattle.std.proofs.Common.{◌≡◌, ℕ, ◌^◌, ◌<◌, ◌++◌, List, length, drop, sym, ap, subst, ◌∙◌, append_assoc, arith}
use Rattle.hprof_layouts.specs.declared.reference.Reference.{Reference}
use Rattle.hprof_layouts.specs.OwnFields.{references_in}
use Rattle.hprof_layouts.specs.Plan.{IsFirstJump}
use Rattle.hprof_layouts.specs.References.{wanted_of}
use Rattle.hprof_layouts.proofs.Laid.{above_fills, fields_few, plan_few, plan_fields, plan_last, plan_own, plan_refers, plan_within}
use Rattle.hprof_layouts.proofs.known.KnownLayouts.lay_plan.Goals as goal

pub returns-in_default : goal.returns-in_default
returns-in_default c = λ facts class slots knows is fills.
    let ids = c.args.ids in
    let plan = c.args.plan.now in
    let bytes = c.args.bytes.now in
    let small : length bytes < 2 ^ 64 = omega arith in
    c.in_ok-push_references.ensures (plan_fields ids facts class slots plan is bytes fills)
    (plan_own ids facts class slots plan is bytes fills)
    (plan_within ids facts class slots plan is bytes fills) (fields_few ids facts class slots plan is bytes fills small)
    ∙ sym (ap (λ (l : List Reference). c.args.references.now.items ++ l)
    (plan_last ids facts class slots plan is bytes fills c.args.wanted c.in_default.is))

pub returns : goal.returns
returns c = λ facts class slots knows is fills.
    let ids = c.args.ids in
    let plan = c.args.plan.now in
    let bytes = c.args.bytes.now in
    let small : length bytes < 2 ^ 64 = omega arith in
    let old = c.args.references.now.items in
    let own = wanted_of c.args.wanted (references_in ids 0 (plan_fields ids facts class slots plan is bytes fills) bytes) in
    let behind = drop plan.own.width bytes in
    let rest_is : c.in-Some-split_at_checked.rest.now ≡ behind = c.in-Some-split_at_checked.ensures.cases.2 in
    let pushed : c.push_references.new.references.items ≡ old ++ own =
    c.in_ok-push_references.ensures (plan_fields ids facts class slots plan is bytes fills)
    (plan_own ids facts class slots plan is bytes fills)
    (plan_within ids facts class slots plan is bytes fills) (fields_few ids facts class slots plan is bytes fills small) in
    let more : c.lay_above.new.references.items
    ≡ c.push_references.new.references.items ++ wanted_of c.args.wanted (references_in ids plan.own.count is.left behind) =
    c.in_ok-lay_above.ensures facts is.left knows (subst (IsFirstJump ids facts is.left) c.in-Some.is is.above_is)
    (above_fills ids facts class slots plan is bytes fills ∙ sym (ap length rest_is))
    (plan_few ids facts class slots plan is bytes fills small)
    ∙ ap (λ (l : List ℕ). c.push_references.new.references.items ++ wanted_of c.args.wanted
    (references_in ids plan.own.count is.left l)) rest_is in
    more
    ∙ ap (λ (l : List Reference). l ++ wanted_of c.args.wanted (references_in ids plan.own.count is.left behind)) pushed
    ∙ append_assoc old own (wanted_of c.args.wanted (references_in ids plan.own.count is.left behind))
    ∙ sym (ap (λ (l : List Reference). old ++ l) (plan_refers ids facts class slots plan is bytes fills c.args.wanted))
