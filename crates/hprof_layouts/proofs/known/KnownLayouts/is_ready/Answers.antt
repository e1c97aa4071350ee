use Rattle.hprof_layouts.specs.Known.{plan_of}
use Rattle.hprof_layouts.proofs.KnownPlans.{ready_by}
use Rattle.hprof_layouts.proofs.known.KnownLayouts.is_ready.Goals as goal

pub returns-else-class-eq0 : goal.returns-else-class-eq0
returns-else-class-eq0 c = ready_by (plan_of c.args.self.now) c.args.class c.contains_key.result c.if-class-eq0.false c.contains_key.ensures
