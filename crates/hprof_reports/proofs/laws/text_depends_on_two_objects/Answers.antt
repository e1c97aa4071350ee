use Rattle.hprof_reports.proofs.SmallReports.{text_line_in_all}
use Rattle.hprof_reports.proofs.laws.text_depends_on_two_objects.Goals as goal

pub returns : goal.returns
returns c = λ ids wanted all small id line agree is among has of. text_line_in_all ids wanted all small id line agree is among has of
