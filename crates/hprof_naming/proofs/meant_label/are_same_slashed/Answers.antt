use Rattle.hprof_naming.proofs.Slashed.{each_slashed, same_slashed}
use Rattle.hprof_naming.proofs.meant_label.are_same_slashed.Goals as goal

pub returns-then-one-other : goal.returns-then-one-other
returns-then-one-other c = (
  λ yes. same_slashed c.args.one.now c.args.other.now c.if-one-other.true (c.agree_slashed.ensures.0 yes),
  λ same. c.agree_slashed.ensures.1 (λ k first second. each_slashed c.args.one.now c.args.other.now same k),
)
