use Rattle.std.proofs.Common.{rules}
use Rattle.hprof_values.proofs.entry.EntryKind.lead_width.Goals as goal

pub returns-in-Constant : goal.returns-in-Constant
returns-in-Constant c = search rules

pub returns-in-Static : goal.returns-in-Static
returns-in-Static c = search rules
