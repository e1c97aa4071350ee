use Rattle.hprof_runs.proofs.Lying.{sorted_rows}
use Rattle.hprof_runs.proofs.laws.sorted_keys_do_not_fall.Goals as goal

pub returns : goal.returns
returns c = λ rows. sorted_rows rows.bytes.items rows.places.items rows.sorted
