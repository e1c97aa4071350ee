use Rattle.std.proofs.Common.{subst}
use Rattle.hprof_tool.specs.Streams.{LeavesStream}
use Rattle.hprof_tool.proofs.program.writing.write_through_buffer.Goals as goal

pub returns-in-Err-clause-stops : goal.returns-in-Err-clause-stops
returns-in-Err-clause-stops g c =
    let made = c.write_buffered in
    let making = g.P.Made.making c.args.product.now in
    subst (λ (before : g.row.W.Denot). LeavesStream g.R.Source.left g.R.Source.health g.R.Source.pulls making c.args.readers.now
    made.new.readers g.W.Write.contents before c.in-Err.left.why c.in-Err.left.writer) c.in-Ok.ensures.inner c.in-Err.ensures.stops
