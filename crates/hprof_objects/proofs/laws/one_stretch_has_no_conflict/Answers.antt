use Rattle.hprof_objects.proofs.OneStretch.{one_stretch_apart}
use Rattle.hprof_objects.proofs.laws.one_stretch_has_no_conflict.Goals as goal

pub returns : goal.returns
returns g c = λ objects limits reads is holds key. one_stretch_apart g.S.Target.written g.S.Target.health limits reads objects is holds key
