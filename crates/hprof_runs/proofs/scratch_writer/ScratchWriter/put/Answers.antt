use Rattle.std.proofs.Common.{[], refl}
use Rattle.hprof_runs.proofs.Sending.{grows_then, on_any, puts_at_once}
use Rattle.hprof_runs.proofs.scratch_writer.ScratchWriter.put.Goals as goal

pub returns-clause-put : goal.returns-clause-put
returns-clause-put g c =
    let sent = c.in_ok-send.ensures in
    let pushed = c.in_ok-push_counted.ensures in
    puts_at_once g.S.Target.written c.args.self.now c.send.new.self _ c.args.bytes.now sent.sent sent.buffer pushed.appended pushed.counted
    refl

pub returns-in_err-push_counted-clause-err : goal.returns-in_err-push_counted-clause-err
returns-in_err-push_counted-clause-err g c =
    on_any c.from_residual-in_err-push_counted.result
    (grows_then g.S.Target.written g.S.Target.health c.args.self.now c.send.new.self c.push_counted.new.scratch c.push_counted.new.count []
    c.in_ok-send.ensures.sent c.in_err-push_counted.ensures.err)
