use Rattle.hprof_meaning.specs.MeantClasses.{IsMeantDump}
use Rattle.hprof_meaning.proofs.MeantLists.{one_all}
use Rattle.hprof_meaning.proofs.SomeLists.{some_dumps}
use Rattle.hprof_meaning.proofs.laws.one_list_of_dumps.Goals as goal

pub returns-clause-some : goal.returns-clause-some
returns-clause-some c = some_dumps

pub returns-clause-one : goal.returns-clause-one
returns-clause-one c = λ facts word one other are too. one_all (IsMeantDump facts word) one other are too
