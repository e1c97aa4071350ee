use Rattle.std.proofs.Common.{rules}
use Rattle.hprof_values.proofs.record_tag.RecordTag.from_code.Goals as goal

pub returns-in-4-clause-both : goal.returns-in-4-clause-both
returns-in-4-clause-both c = search rules

pub returns-in-4-clause-exact : goal.returns-in-4-clause-exact
returns-in-4-clause-exact c = search rules
