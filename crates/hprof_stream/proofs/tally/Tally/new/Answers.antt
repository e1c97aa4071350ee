use Rattle.std.proofs.Common.{rules}
use Rattle.hprof_stream.proofs.tally.Tally.new.Goals as goal

pub returns-clause-begun : goal.returns-clause-begun
returns-clause-begun c = search rules

pub returns-clause-counts : goal.returns-clause-counts
returns-clause-counts c = search rules
