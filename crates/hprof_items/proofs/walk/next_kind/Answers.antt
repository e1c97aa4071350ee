use Rattle.std.proofs.Common.{rules}
use Rattle.hprof_items.proofs.walk.next_kind.Goals as goal

pub returns-in-Constant : goal.returns-in-Constant
returns-in-Constant c = search rules

pub returns-in-Field : goal.returns-in-Field
returns-in-Field c = search rules

pub returns-in-Static : goal.returns-in-Static
returns-in-Static c = search rules
