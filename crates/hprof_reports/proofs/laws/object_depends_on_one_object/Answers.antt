use Rattle.hprof_reports.proofs.SmallReports.{object_text_in_all}
use Rattle.hprof_reports.proofs.laws.object_depends_on_one_object.Goals as goal

pub returns : goal.returns
returns c = λ ids wanted all small id text agree is among of. object_text_in_all ids wanted all small id text agree is among of
