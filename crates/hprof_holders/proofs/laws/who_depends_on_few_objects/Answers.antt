use Rattle.hprof_holders.proofs.WhoInAll.{who_in_all}
use Rattle.hprof_holders.proofs.laws.who_depends_on_few_objects.Goals as goal

pub returns : goal.returns
returns c = λ ids wanted all small id text agree is has of. who_in_all ids wanted all small id text agree is has of
