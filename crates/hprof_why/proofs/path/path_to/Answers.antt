use Rattle.std.proofs.Common.{subst}
use Rattle.std.specs.Option.{option_map}
use Rattle.hprof_edges.specs.LeftOut.{IsKept}
use Rattle.hprof_reach.specs.Reaching.{IsDistanceBy, IsPathBy}
use Rattle.hprof_why.proofs.path.path_to.Goals as goal

pub returns-in_default-2 : goal.returns-in_default-2
returns-in_default-2 c = λ fields ids facts reach.
    subst (λ path. IsPathBy (IsKept fields facts) ids facts c.args.id (option_map (λ nodes. nodes.items) path)) c.in_default-2.is
    (c.in_ok-nodes.ensures fields ids facts reach)

pub returns : goal.returns
returns c = λ fields ids facts reach. (
  subst (IsDistanceBy (IsKept fields facts) ids facts c.args.id) c.in-Some.is (c.distance_by.ensures fields ids facts reach),
  subst (λ path. IsPathBy (IsKept fields facts) ids facts c.args.id (option_map (λ nodes. nodes.items) path)) c.in-Some-2.is
      (c.in_ok-nodes.ensures fields ids facts reach),
)
