use Rattle.std.proofs.Common.{refl}
use Rattle.hprof_layouts.proofs.Joined.{joined_plan}
use Rattle.hprof_layouts.proofs.plan.Plan.join.Goals as goal

pub returns : goal.returns
returns c = λ ids facts class slots others each is jumps there.
    joined_plan ids facts each class slots others c.args.self.now c.args.above.now c.args.jump is jumps there
    (c.if-not-goes_with.ensures.some refl) (c.if-not-goes_with.ensures.counted refl) c.append.new.self c.in_ok-append.ensures
