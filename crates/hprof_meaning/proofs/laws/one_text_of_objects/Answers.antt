use Rattle.hprof_meaning.proofs.OneTexts.{one_objects_text, some_objects_text}
use Rattle.hprof_meaning.proofs.laws.one_text_of_objects.Goals as goal

pub returns-clause-some : goal.returns-clause-some
returns-clause-some c = some_objects_text

pub returns-clause-one : goal.returns-clause-one
returns-clause-one c = one_objects_text
