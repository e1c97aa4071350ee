use Rattle.std.specs.Prelude.{codes}
use Rattle.hprof_weak.proofs.called.is_reference.Goals as goal

pub returns : goal.returns
returns c =
    let called = c.label_of.ensures (codes "java/lang/ref/Reference") in
    let there = c.is_label.ensures in
    (λ yes. called.1 (there.0 yes), λ is. there.1 (called.0 is))
