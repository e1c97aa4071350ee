use Rattle.hprof_layouts.proofs.KnownPlans.{known_ready, ready_known}
use Rattle.hprof_layouts.proofs.known.KnownLayouts.knows.Goals as goal

pub returns : goal.returns
returns c = λ ids facts knows. (
  λ is. ready_known ids facts c.args.self.now knows c.args.class (c.is_ready.ensures.0 is),
  λ layout. c.is_ready.ensures.1 (known_ready ids facts c.args.self.now knows c.args.class layout),
)
