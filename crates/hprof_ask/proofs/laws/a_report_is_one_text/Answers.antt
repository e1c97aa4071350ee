use Rattle.hprof_ask.specs.OneReport.{no_report, one_report}
use Rattle.hprof_ask.specs.SomeReport.{some_report}
use Rattle.hprof_ask.proofs.laws.a_report_is_one_text.Goals as goal

pub returns-clause-some : goal.returns-clause-some
returns-clause-some c = λ summaries ids facts report agree. some_report ids facts agree summaries report

pub returns-clause-none : goal.returns-clause-none
returns-clause-none c = no_report

pub returns-clause-one : goal.returns-clause-one
returns-clause-one c = one_report
