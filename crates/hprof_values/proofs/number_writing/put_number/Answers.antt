use Rattle.std.proofs.Common.{rules}
use Rattle.hprof_values.proofs.number_writing.put_number.Goals as goal

pub returns-in-Two : goal.returns-in-Two
returns-in-Two c = search rules
