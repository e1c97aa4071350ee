use Rattle.hprof_layouts.proofs.MoreFacts.{known_stays, cyclic_stays}
use Rattle.hprof_layouts.proofs.laws.more_facts_keep_layouts.Goals as goal

pub returns-clause-known : goal.returns-clause-known
returns-clause-known c = λ facts more class slots all is. known_stays facts more all class slots is

pub returns-clause-cyclic : goal.returns-clause-cyclic
returns-clause-cyclic c = λ facts more class all is. cyclic_stays facts more all class is
