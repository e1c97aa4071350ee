use Rattle.std.proofs.Common.{rules}
use Rattle.hprof_values.proofs.record_tag.RecordTag.code.Goals as goal

pub returns-in-EndThread : goal.returns-in-EndThread
returns-in-EndThread c = search rules
