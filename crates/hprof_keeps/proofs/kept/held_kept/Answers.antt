use Rattle.std.proofs.Common.{ℕ, Option, subst}
use Rattle.hprof_keeps.specs.Kept.{nodes_at}
use Rattle.hprof_keeps.specs.Order.{AreChildren, retained_in}
use Rattle.hprof_keeps.proofs.Places.{node_of_some}
use Rattle.hprof_keeps.proofs.kept.held_kept.Goals as goal

pub returns-clause-kept : goal.returns-clause-kept
returns-clause-kept c = λ ids facts is.
    let retained = c.args.retained.now in (
      (is.held c.args.place c.requires.some c.requires.within).0,
      c.in_ok-above.ensures.dominators ids facts is,
      subst (λ (parent : Option ℕ). AreChildren ids facts (retained_in retained) parent (nodes_at retained c.in_ok-below.below.items))
          (node_of_some retained c.args.place c.requires.some) (c.in_ok-below.ensures.children ids facts is),
    )
