use Rattle.std.proofs.Common.{length}
use Rattle.hprof_stream.specs.Progress.{IsCounted}
use Rattle.hprof_stream.specs.Walking.{IsBegun, Walks}
use Rattle.hprof_stream.proofs.progress.Progress.walk.Given as goal

abbrev pub invariant-loop-rest : goal.invariant-loop-rest
invariant-loop-rest g l = record {
  walked : Walks g.S.Sink.begins g.S.Sink.steps l.fn.self.limits.max_item l.fn.self l.bytes l.fn.sink l.self l.rest l.sink;
  counted : IsCounted l.self (length l.rest);
  begun : IsBegun l.self.header (g.S.Sink.begun l.sink);
}

abbrev pub decreases-loop-rest : goal.decreases-loop-rest
decreases-loop-rest g l = length l.rest
