use Rattle.std.proofs.Common.{refl}
use Rattle.hprof_holders.specs.Steps.{step_kind}
use Rattle.hprof_why.proofs.KindParts.{found_equal, same_words}
use Rattle.hprof_why.proofs.alike.same_step.Goals as goal

pub returns-then-is_one_step : goal.returns-then-is_one_step
returns-then-is_one_step c = λ naming edges first next is_naming is too.
    found_equal (step_kind naming edges first) (step_kind naming edges next)
    (same_words naming edges first next c.args.one c.args.other is too (c.if-is_one_step.ensures refl))
