use Rattle.hprof_items.proofs.RecordBodies.{record_again, record_found}
use Rattle.hprof_items.proofs.laws.records_read_back.Goals as goal

pub returns-clause-again : goal.returns-clause-again
returns-clause-again c = record_again

pub returns-clause-found : goal.returns-clause-found
returns-clause-found c = record_found
