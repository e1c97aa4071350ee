use Rattle.std.proofs.Common.{rules}
use Rattle.hprof_values.proofs.number_writing.numbers_len.Goals as goal

pub returns : goal.returns
returns c = search rules
