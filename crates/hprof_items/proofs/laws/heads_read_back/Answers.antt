use Rattle.hprof_items.proofs.Heads.{head_found, head_again, fact_head}
use Rattle.hprof_items.proofs.laws.heads_read_back.Goals as goal

pub returns-clause-again : goal.returns-clause-again
returns-clause-again c = head_again

pub returns-clause-found : goal.returns-clause-found
returns-clause-found c = head_found

pub returns-clause-facts : goal.returns-clause-facts
returns-clause-facts c = fact_head
