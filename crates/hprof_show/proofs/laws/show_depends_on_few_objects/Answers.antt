use Rattle.hprof_show.proofs.ShowInAll.{show_in_all}
use Rattle.hprof_show.proofs.laws.show_depends_on_few_objects.Goals as goal

pub returns : goal.returns
returns c = λ ids wanted all small id text agree is has of. show_in_all ids wanted all small id agree is has text of
