use Rattle.std.proofs.Common.{ap, ◌∙◌}
use Rattle.hprof_stored.specs.StoredMaking.{fault_of_pass}
use Rattle.hprof_stored.proofs.merge_stop.fault_of_first_pass.Goals as goal

pub returns : goal.returns
returns c = c.from.ensures ∙ ap fault_of_pass c.pass_fault.ensures
