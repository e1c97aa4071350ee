use Rattle.hprof_items.proofs.RecordBodies.{record_once}
use Rattle.hprof_items.proofs.laws.one_record_spelling.Goals as goal

pub returns : goal.returns
returns c = record_once
