use Rattle.hprof_holders.proofs.SomeThreads.{text_exists, text_once}
use Rattle.hprof_holders.proofs.laws.one_threads_text.Goals as goal

pub returns-clause-exists : goal.returns-clause-exists
returns-clause-exists c = λ ids facts agree. text_exists facts agree ids

pub returns-clause-once : goal.returns-clause-once
returns-clause-once c = λ ids facts one other are too. text_once facts are.agree ids one other are too
