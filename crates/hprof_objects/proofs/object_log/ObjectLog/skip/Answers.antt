use Rattle.hprof_objects.specs.Store.{rows_of_store, runs_of_store}
use Rattle.hprof_objects.proofs.Logged.{keeps_other}
use Rattle.hprof_objects.proofs.object_log.ObjectLog.skip.Goals as goal

pub returns-clause-log : goal.returns-clause-log
returns-clause-log g c = λ limits parts part fact it none. (
  (let old = c.args.self.now in
      keeps_other g.S.Target.written g.S.Target.health limits parts part old.part fact (rows_of_store old.store) (runs_of_store old.store)
      old.stretches.items old.cuts.items old.cut old.growing none it.0),
  c.pass_one.ensures limits part fact it.1,
)
