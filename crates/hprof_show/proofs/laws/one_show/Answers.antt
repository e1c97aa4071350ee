use Rattle.hprof_show.proofs.OneReport.{one_show_text, some_show}
use Rattle.hprof_show.proofs.laws.one_show.Goals as goal

pub returns-clause-some : goal.returns-clause-some
returns-clause-some c = some_show

pub returns-clause-one : goal.returns-clause-one
returns-clause-one c = one_show_text
