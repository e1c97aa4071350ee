use Rattle.std.proofs.Common.{rules}
use Rattle.hprof_items.proofs.class_reading.class_of.Goals as goal

pub returns-clause-fact : goal.returns-clause-fact
returns-clause-fact c = search rules

pub returns-clause-lists : goal.returns-clause-lists
returns-clause-lists c = search rules
