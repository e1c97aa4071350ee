use Rattle.std.proofs.Common.{List, ℕ, ◌∷◌, subst, sym}
use Rattle.hprof_objects.specs.Wanted.{AreFrom, Rises}
use Rattle.hprof_objects.proofs.WantedRows.{rises_above}
use Rattle.hprof_objects.proofs.wanted.from_key.Goals as goal

-- the first is not below the key
pub returns-then-first-key-clause-from : goal.returns-then-first-key-clause-from
returns-then-first-key-clause-from c =
    let is = c.in-Some.ensures.cases.0 in
    let rises : Rises (c.in-Some.first.now ∷ c.in-Some.after.now) = subst (λ (l : List ℕ). Rises l) is c.loop-first.invariant.rises in
    subst (λ (l : List ℕ). AreFrom c.args.key l) (sym is)
    (rises_above c.args.key c.in-Some.first.now c.in-Some.after.now c.if-first-key.true rises)
