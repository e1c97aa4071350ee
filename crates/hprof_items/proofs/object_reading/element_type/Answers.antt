use Rattle.std.proofs.Common.{rules}
use Rattle.hprof_items.proofs.object_reading.element_type.Goals as goal

pub returns-in-None : goal.returns-in-None
returns-in-None c = search rules

pub returns-in-None-2 : goal.returns-in-None-2
returns-in-None-2 c = search rules

pub returns-in-Some : goal.returns-in-Some
returns-in-Some c = search rules
