use Rattle.hprof_naming.proofs.OneText.{text_exists, text_once}
use Rattle.hprof_naming.proofs.laws.one_text.Goals as goal

pub returns-clause-exists : goal.returns-clause-exists
returns-clause-exists c = text_exists

pub returns-clause-once : goal.returns-clause-once
returns-clause-once c = λ ids facts id one other agree. text_once facts agree ids id one other
