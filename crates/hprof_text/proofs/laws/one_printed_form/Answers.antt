use Rattle.hprof_text.proofs.Prints.{one_printed}
use Rattle.hprof_text.proofs.Decided.{printed_exists}
use Rattle.hprof_text.proofs.laws.one_printed_form.Goals as goal

pub returns-clause-exists : goal.returns-clause-exists
returns-clause-exists c = printed_exists

pub returns-clause-once : goal.returns-clause-once
returns-clause-once c = one_printed
