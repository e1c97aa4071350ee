use Rattle.hprof_segments.proofs.RowRuns.{rows_taken}
use Rattle.hprof_segments.proofs.laws.rows_are_taken_in_order.Goals as goal

pub returns : goal.returns
returns g c = rows_taken g.W.Target.written
