use Rattle.hprof_layouts.proofs.FieldAnswers.{fields_once, fields_exist}
use Rattle.hprof_layouts.proofs.laws.one_answer_of_fields.Goals as goal

pub returns-clause-exists : goal.returns-clause-exists
returns-clause-exists c = fields_exist

pub returns-clause-once : goal.returns-clause-once
returns-clause-once c = fields_once
