use Rattle.std.proofs.Common.{rules}
use Rattle.hprof_stream.proofs.tally.TallySink.begin_part.Goals as goal

pub returns-clause-begins : goal.returns-clause-begins
returns-clause-begins c = search rules
