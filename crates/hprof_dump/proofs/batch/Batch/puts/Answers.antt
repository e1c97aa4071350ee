use Rattle.std.proofs.Common.{arith}
use Rattle.hprof_dump.proofs.Batches.{waits_behind}
use Rattle.hprof_dump.proofs.batch.Batch.puts.Goals as goal

pub returns-in-Some-clause-put : goal.returns-in-Some-clause-put
returns-in-Some-clause-put c is =
    let self = c.args.self.now in
    waits_behind self.end c.in-Some.count _ self.room _ _ c.put.new.out (omega (arith, self.sound)) c.in-Some.ensures.put.1
    c.in-Some.ensures.put.0
