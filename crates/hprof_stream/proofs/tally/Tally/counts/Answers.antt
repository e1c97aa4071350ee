use Rattle.std.proofs.Common.{rules}
use Rattle.hprof_stream.proofs.tally.Tally.counts.Goals as goal

pub returns : goal.returns
returns c = search rules
