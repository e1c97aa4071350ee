use Rattle.std.proofs.Common.{rules}
use Rattle.hprof_stream.proofs.limits.Limits.usual.Goals as goal

pub returns-clause-bytes : goal.returns-clause-bytes
returns-clause-bytes c = search rules

pub returns-clause-item : goal.returns-clause-item
returns-clause-item c = search rules

pub returns-clause-reads : goal.returns-clause-reads
returns-clause-reads c = search rules
