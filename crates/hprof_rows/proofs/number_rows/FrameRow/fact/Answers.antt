use Rattle.std.proofs.Common.{rules}
use Rattle.hprof_rows.proofs.number_rows.FrameRow.fact.Goals as goal

pub returns-clause-lists : goal.returns-clause-lists
returns-clause-lists c = search rules

pub returns-clause-value : goal.returns-clause-value
returns-clause-value c = search rules
