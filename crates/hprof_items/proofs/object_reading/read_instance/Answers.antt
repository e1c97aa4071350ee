use Rattle.std.proofs.Common.{rules, arith}
use Rattle.std.proofs.lemmas.Grind.{common_steps}
use Rattle.hprof_items.specs.SubRecord.{instance_at}
use Rattle.hprof_items.proofs.object_reading.read_instance.Goals as goal

pub returns-clause-fact : goal.returns-clause-fact
unfolding instance_at
returns-clause-fact c = search rules

pub returns-in_err-end-clause-fact : goal.returns-in_err-end-clause-fact
unfolding instance_at
returns-in_err-end-clause-fact c = grind (arith, common_steps)

pub returns-in_err-first-clause-fact : goal.returns-in_err-first-clause-fact
unfolding instance_at
returns-in_err-first-clause-fact c = grind (arith, common_steps)
