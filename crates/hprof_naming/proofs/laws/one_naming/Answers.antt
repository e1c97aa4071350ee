use Rattle.hprof_naming.proofs.Namings.{naming_exists, one_naming}
use Rattle.hprof_naming.proofs.laws.one_naming.Goals as goal

pub returns-clause-exists : goal.returns-clause-exists
returns-clause-exists c = naming_exists

pub returns-clause-once : goal.returns-clause-once
returns-clause-once c = λ facts one other agree is is_too. one_naming facts agree one other is is_too
