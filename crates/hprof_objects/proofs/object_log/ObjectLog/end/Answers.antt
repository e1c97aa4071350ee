use Rattle.hprof_objects.proofs.Parts.{part_ends}
use Rattle.hprof_objects.proofs.object_log.ObjectLog.end.Goals as goal

-- no stretch grows any more
pub returns-clause-log : goal.returns-clause-log
returns-clause-log g c = λ limits parts part it.
    part_ends g.S.Target.written g.S.Target.health limits parts part c.close.new.self c.close.ensures.none
    (c.close.ensures.log limits parts part it)
