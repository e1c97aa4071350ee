use Rattle.std.proofs.Common.{◌++◌, None, refl}
use Rattle.hprof_objects.specs.Cuts.{last_cut}
use Rattle.hprof_objects.specs.Growing.{staying}
use Rattle.hprof_objects.specs.Store.{rows_of_store, runs_of_store}
use Rattle.hprof_objects.proofs.Logged.{keeps_ended}
use Rattle.hprof_objects.proofs.Settled.{keeps_same}
use Rattle.hprof_objects.proofs.object_log.ObjectLog.close.Goals as goal

-- what grew stays, or is forgotten
pub returns-clause-log : goal.returns-clause-log
returns-clause-log g c = λ limits parts part it. let old = c.args.self.now in (
  keeps_same g.S.Target.written g.S.Target.health limits parts part old.part old.part (rows_of_store old.store) (rows_of_store old.store)
      (runs_of_store old.store) (runs_of_store old.store) (old.stretches.items ++ staying old.growing) c.keep.new.stretches.items
      (old.cuts.items ++ last_cut old.growing old.cut) c.keep_cut.new.cuts.items None None refl refl refl c.keep.ensures
      c.keep_cut.ensures
      (keeps_ended g.S.Target.written g.S.Target.health limits parts part old.part (rows_of_store old.store) (runs_of_store old.store)
      old.stretches.items old.cuts.items old.cut None old.growing it.0),
  it.1,
)
