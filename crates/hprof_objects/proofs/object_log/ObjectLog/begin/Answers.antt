use Rattle.hprof_objects.proofs.Parts.{part_begins}
use Rattle.hprof_objects.proofs.object_log.ObjectLog.begin.Goals as goal

-- nothing of the part came
pub returns-clause-log : goal.returns-clause-log
returns-clause-log g c = λ limits parts ids it numbered. (
  part_begins g.S.Target.written g.S.Target.health limits parts ids c.args.part c.args.self.now c.close.new.self.store
      c.close.new.self.stretches.items c.close.new.self.cuts.items c.close.new.self.cut c.close.new.self.growing c.close.ensures.store
      c.close.ensures.stretches c.close.ensures.cuts c.close.ensures.none it numbered,
  tt,
)
