use Rattle.hprof_why.proofs.OneText.{why_once}
use Rattle.hprof_why.proofs.SomeText.{why_exists}
use Rattle.hprof_why.proofs.laws.one_why_text.Goals as goal

pub returns-clause-exists : goal.returns-clause-exists
returns-clause-exists c = λ ids facts id agree. why_exists ids facts agree id

pub returns-clause-once : goal.returns-clause-once
returns-clause-once c = why_once
