use Rattle.std.proofs.Common.{◌++◌}
use Rattle.hprof_threads.specs.declared.held.Held.{Held}
use Rattle.hprof_holders.proofs.PushedThreads.{objects_in, one_appended}
use Rattle.hprof_holders.proofs.thread_objects.push_held.Goals as goal

pub loop-held-preserved : goal.loop-held-preserved
loop-held-preserved c =
    one_appended (λ (held : Held). held.object) c.loop-held.nodes.items c.push.new.self.items c.in-Some.held.now c.loop-held.rest.now
    c.in-Some.after.now (c.args.nodes.now.items ++ objects_in c.args.rows.now) c.in_ok-push.ensures.items c.in-Some.ensures.cases.0
    c.loop-held.invariant
