use Rattle.hprof_values.proofs.FieldGroups.{fields_again, fields_rest, fields_fit, fields_found}
use Rattle.hprof_values.proofs.laws.fields_read_back.Goals as goal

pub returns-clause-again : goal.returns-clause-again
returns-clause-again c = λ widths numbers rest fits. (fields_again widths numbers rest fits, fields_rest widths numbers rest fits)

pub returns-clause-found : goal.returns-clause-found
returns-clause-found c = λ widths bytes are long. (fields_fit widths bytes are, fields_found widths bytes are long)
