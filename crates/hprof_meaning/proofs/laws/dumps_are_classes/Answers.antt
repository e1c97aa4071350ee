use Rattle.hprof_meaning.proofs.ClassLists.{dump_is_class}
use Rattle.hprof_meaning.proofs.laws.dumps_are_classes.Goals as goal

pub returns : goal.returns
returns c = λ facts word id meant. record { is_class = dump_is_class facts id meant.is_dumped; labelled = meant.labelled }
