use Rattle.std.proofs.Common.{rules}
use Rattle.hprof_values.proofs.entry.EntryKind.bits_width.Goals as goal

pub returns-in-Constant : goal.returns-in-Constant
returns-in-Constant c = search rules

pub returns-in-Field : goal.returns-in-Field
returns-in-Field c = search rules
