use Rattle.hprof_items.proofs.Dumps.{sub_again, sub_found, dump_once}
use Rattle.hprof_items.proofs.laws.sub_records_read_back.Goals as goal

pub returns-clause-again : goal.returns-clause-again
returns-clause-again c = sub_again

pub returns-clause-found : goal.returns-clause-found
returns-clause-found c = sub_found

pub returns-clause-once : goal.returns-clause-once
returns-clause-once c = dump_once
