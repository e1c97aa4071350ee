use Rattle.std.proofs.Common.{length}
use Rattle.hprof_objects.specs.Store.{rows_of_store, runs_of_store}
use Rattle.hprof_objects.proofs.Settled.{grows_in_part}
use Rattle.hprof_objects.proofs.object_log.ObjectLog.take_row.Goals as goal

-- it stays in the part, as those before it
pub returns-else-due-clause-log : goal.returns-else-due-clause-log
returns-else-due-clause-log g c = λ limits parts part fact it object.
    let old = c.args.self.now in
    grows_in_part g.S.Target.written g.S.Target.health limits parts part old.part (rows_of_store old.store) (runs_of_store old.store)
    old.stretches.items old.cuts.items old.cut old.growing c.in-Some.growing c.grow.new.self fact c.args.id (length c.args.spelled.now)
    c.args.spelled.now
    c.in-Some.is c.in-InPart.is c.if-growing-id.true object c.grow.ensures it.0
