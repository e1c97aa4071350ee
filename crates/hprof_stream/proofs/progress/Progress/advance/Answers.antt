use Rattle.std.proofs.Common.{rules}
use Rattle.hprof_stream.proofs.progress.Progress.advance.Goals as goal

pub returns-in-End : goal.returns-in-End
returns-in-End c = search rules

pub returns-in-Skipped : goal.returns-in-Skipped
returns-in-Skipped c = search rules
