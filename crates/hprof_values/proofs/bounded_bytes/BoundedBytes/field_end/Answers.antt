use Rattle.std.proofs.Common.{rules}
use Rattle.hprof_values.proofs.bounded_bytes.BoundedBytes.field_end.Goals as goal

pub returns-then-self-end : goal.returns-then-self-end
returns-then-self-end c = search rules
