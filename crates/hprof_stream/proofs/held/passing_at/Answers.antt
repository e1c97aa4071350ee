use Rattle.std.proofs.Common.{refl, arith}
use Rattle.hprof_stream.proofs.Holding.{head_there}
use Rattle.hprof_stream.proofs.held.passing_at.Goals as goal

pub overflow_cast-result : goal.overflow_cast-result
overflow_cast-result c =
    let head = c.in-Ok.head in
    let read = c.read_head.ensures.found head _ c.in-Ok.is in
    omega (arith, c.saturating_sub-left.ensures, head_there head.tag head.time head.length c.args.bytes.now _ read.0, read.2.length)

pub returns-clause-head : goal.returns-clause-head
returns-clause-head c =
    let head = c.in-Ok.head in
    let read = c.read_head.ensures.found head _ c.in-Ok.is in
    (refl, head_there head.tag head.time head.length c.args.bytes.now _ read.0)
