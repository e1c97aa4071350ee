use Rattle.hprof_objects.proofs.WantedRows.{none_up_to}
use Rattle.hprof_objects.proofs.wanted.has_up_to.Goals as goal

pub returns-in-Some : goal.returns-in-Some
returns-in-Some c = none_up_to c.args.wanted.now c.in-Some.first.now c.args.key c.in-Some.ensures.value c.requires
