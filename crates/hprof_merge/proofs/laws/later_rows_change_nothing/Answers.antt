use Rattle.hprof_merge.proofs.Unions.{later_rows}
use Rattle.hprof_merge.proofs.laws.later_rows_change_nothing.Goals as goal

pub returns : goal.returns
returns c = later_rows
