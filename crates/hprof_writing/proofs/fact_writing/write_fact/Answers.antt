use Rattle.std.proofs.Common.{rules}
use Rattle.hprof_writing.proofs.fact_writing.write_fact.Goals as goal

pub returns-in-Root-clause-bytes : goal.returns-in-Root-clause-bytes
returns-in-Root-clause-bytes g c = search rules

pub returns-in-Root-clause-health : goal.returns-in-Root-clause-health
returns-in-Root-clause-health g c = search rules
