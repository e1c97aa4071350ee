use Rattle.hprof_runs.proofs.Picked.{reordered}
use Rattle.hprof_runs.proofs.laws.any_order_of_rows.Goals as goal

pub returns : goal.returns
returns c = reordered
