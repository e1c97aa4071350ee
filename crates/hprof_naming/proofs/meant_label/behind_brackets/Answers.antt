use Rattle.std.proofs.Common.{[], ◌∷◌}
use Rattle.std.proofs.lemmas.Bool.Decides.{Decides-eqb}
use Rattle.std.proofs.lemmas.Slice.Eq.{strip_prefix_is}
use Rattle.hprof_naming.proofs.Labels.{too_few}
use Rattle.hprof_naming.proofs.meant_label.behind_brackets.Goals as goal

pub returns-in_err-rest : goal.returns-in_err-rest
returns-in_err-rest c =
    let told = strip_prefix_is Decides-eqb c.loop.rest.now (91 ∷ []) c.strip_prefix.result c.strip_prefix.ensures.cases in
    let none = rw c.in_err-rest.was at told in
    rw c.from_residual.ensures
    (too_few c.args.label.now c.loop.rest.now c.loop.counter c.args.count c.loop.invariant c.loop-test.true none)
