use Rattle.std.proofs.Common.{ℕ, ◌==◌, List, length, ◌∷◌, ◌++◌, [], sym, ap, ◌∙◌, rules}
use Rattle.hprof_text.proofs.Rows.{rest_is_shorter}
use Rattle.hprof_text.proofs.Fronts.{front_push, front_all, front_stop, ended}
use Rattle.hprof_text.proofs.decoding.is_modified.Goals as goal

pub loop-after-smaller : goal.loop-after-smaller
loop-after-smaller c = rest_is_shorter _ _ _ c.in-Some.ensures.found

pub loop-after-preserved : goal.loop-after-preserved
loop-after-preserved c =
    let units = c.loop-after.invariant.0 in (
      units ++ c.in-Some.field-0-0 ∷ [],
      front_push units _ _ _ c.in-Some.field-0-0 c.loop-after.invariant.1 (search rules)
          c.in-Some.ensures.found,
    )

pub returns : goal.returns
returns c =
    let units = c.loop-after.invariant.0 in (
      λ empty. (
        units,
        front_all units c.args.bytes.now (rw (ended c.loop-after.rest.now (sym c.is_empty.ensures ∙ empty)) at
            c.loop-after.invariant.1),
      ),
      λ has. let done = front_stop units c.args.bytes.now c.loop-after.rest.now c.loop-after.invariant.1 c.in_default.ensures.none
          has in c.is_empty.ensures ∙ ap (λ (xs : List ℕ). length xs == 0) done,
    )
