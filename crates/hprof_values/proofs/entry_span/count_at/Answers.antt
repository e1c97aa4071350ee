use Rattle.std.proofs.Common.{arith}
use Rattle.hprof_values.proofs.entry_span.count_at.Goals as goal

pub returns-clause-bytes : goal.returns-clause-bytes
returns-clause-bytes c = λ i. omega (arith, c.type_inv.bytes i)
