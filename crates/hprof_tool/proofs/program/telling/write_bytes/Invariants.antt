use Rattle.std.proofs.Common.{length}
use Rattle.hprof_devices.proofs.Writes.{Pushed}
use Rattle.hprof_tool.proofs.program.telling.write_bytes.Given as goal

abbrev pub invariant-loop-rest : goal.invariant-loop-rest
invariant-loop-rest g l = Pushed (g.W.Write.contents l.fn.writer) (g.W.Write.contents l.writer) l.bytes l.rest

abbrev pub decreases-loop-rest : goal.decreases-loop-rest
decreases-loop-rest g l = length l.rest
