use Rattle.std.proofs.Common.{◌≡◌, Some, length}
use Rattle.hprof_stream.specs.Progress.{IsCounted}
use Rattle.hprof_stream.specs.Walking.{IsBegun, Walks}
use Rattle.hprof_stream.proofs.progress.Progress.walk_within.Given as goal

abbrev pub invariant-loop-progress : goal.invariant-loop-progress
invariant-loop-progress g l = record {
  walked : Walks g.S.Sink.begins g.S.Sink.steps l.fn.self.limits.max_item l.fn.self l.bytes l.fn.sink l.progress l.rest l.sink;
  header : l.progress.header ≡ Some l.header;
  counted : IsCounted l.progress (length l.rest);
  begun : IsBegun l.progress.header (g.S.Sink.begun l.sink);
}

abbrev pub decreases-loop-progress : goal.decreases-loop-progress
decreases-loop-progress g l = length l.rest
