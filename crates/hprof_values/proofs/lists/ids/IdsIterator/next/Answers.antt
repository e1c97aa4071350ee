use Rattle.std.proofs.Common.{rules}
use Rattle.hprof_values.proofs.lists.ids.IdsIterator.next.Goals as goal

pub returns-then-is_empty : goal.returns-then-is_empty
returns-then-is_empty c = search rules
