use Rattle.std.proofs.Common.{rules, arith}
use Rattle.std.proofs.lemmas.Grind.{common_steps}
use Rattle.hprof_reports.proofs.line.write_count.Goals as goal

pub returns-clause-bytes : goal.returns-clause-bytes
returns-clause-bytes g c = grind (arith, common_steps)

pub returns-clause-health : goal.returns-clause-health
returns-clause-health g c = search rules
