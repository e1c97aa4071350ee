use Rattle.hprof_tool.proofs.Tasks.{may_do}
use Rattle.hprof_tool.proofs.program.perform_metered.Goals as goal

pub perform-ended-requires-clause-folder : goal.perform-ended-requires-clause-folder
perform-ended-requires-clause-folder g c = may_do _ (Unit {0}) c.args.task
