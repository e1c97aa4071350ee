use Rattle.hprof_meaning.proofs.OneTexts.{one_named_text, some_named_text}
use Rattle.hprof_meaning.proofs.laws.one_text_of_classes.Goals as goal

pub returns-clause-some : goal.returns-clause-some
returns-clause-some c = some_named_text

pub returns-clause-one : goal.returns-clause-one
returns-clause-one c = one_named_text
