use Rattle.hprof_holders.proofs.SomeWho.{who_exists, who_once}
use Rattle.hprof_holders.proofs.laws.one_who_text.Goals as goal

pub returns-clause-exists : goal.returns-clause-exists
returns-clause-exists c = λ ids facts id agree. who_exists ids facts agree id

pub returns-clause-once : goal.returns-clause-once
returns-clause-once c = λ ids facts id one other are too. who_once ids facts are.agree id one other are too
