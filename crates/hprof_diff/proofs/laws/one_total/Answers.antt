use Rattle.hprof_diff.specs.OneTotal.{one_total, totals_exist}
use Rattle.hprof_diff.proofs.laws.one_total.Goals as goal

pub returns-clause-exists : goal.returns-clause-exists
returns-clause-exists c = totals_exist

pub returns-clause-once : goal.returns-clause-once
returns-clause-once c = one_total
