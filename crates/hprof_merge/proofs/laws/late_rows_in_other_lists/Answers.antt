use Rattle.hprof_merge.proofs.LateUnions.{beside_late}
use Rattle.hprof_merge.proofs.laws.late_rows_in_other_lists.Goals as goal

pub returns : goal.returns
returns c = beside_late
