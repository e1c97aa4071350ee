use Rattle.hprof_holders.proofs.ThreadsInAll.{threads_in_all}
use Rattle.hprof_holders.proofs.laws.threads_depend_on_few_objects.Goals as goal

pub returns : goal.returns
returns c = λ ids wanted all small text agree is has of. threads_in_all ids wanted all small text agree is has of
