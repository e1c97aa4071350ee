use Rattle.hprof_objects.proofs.Settled.{pushed_keeps, where_ok}
use Rattle.hprof_objects.proofs.object_log.ObjectLog.push.Goals as goal

-- enough is kept, wherever the rows before went
pub returns-clause-log : goal.returns-clause-log
returns-clause-log g c = where_ok c.push.result c.push.ensures.pushed (λ spilled pushed limits parts part fact it object.
    let old = c.args.self.now in
    pushed_keeps g.S.Target.written g.S.Target.health limits parts part old.part old.stretches.items old.cuts.items old.cut fact
    (c.args.id, c.args.spelled.now) old.store c.push.new.self spilled object pushed it)
