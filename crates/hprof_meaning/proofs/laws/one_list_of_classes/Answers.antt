use Rattle.hprof_meaning.specs.MeantClasses.{IsMeantClass}
use Rattle.hprof_meaning.proofs.MeantLists.{one_all}
use Rattle.hprof_meaning.proofs.SomeLists.{some_classes}
use Rattle.hprof_meaning.proofs.laws.one_list_of_classes.Goals as goal

pub returns-clause-some : goal.returns-clause-some
returns-clause-some c = some_classes

pub returns-clause-one : goal.returns-clause-one
returns-clause-one c = λ facts word one other are too. one_all (IsMeantClass facts word) one other are too
