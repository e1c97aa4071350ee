use Rattle.std.proofs.Common.{◌≡◌, ◌-◌, ◌+◌, ◌≤◌}
use Rattle.std.specs.Prelude.{vec_len}
use Rattle.hprof_runs.specs.RunBytes.{KeepsBytes, scratch_under}
use Rattle.hprof_runs.proofs.run_bytes.RunBytes.hold.Given as goal

abbrev pub invariant-loop-self : goal.invariant-loop-self
invariant-loop-self g l = record {
  start : l.self.start ≡ 0;
  room : l.count ≤ vec_len l.self.block;
  enough : l.count ≤ l.self.end + l.self.left;
  bytes : KeepsBytes g.S.Target.written l.fn.self l.self;
  scratch : scratch_under l.self ≡ scratch_under l.fn.self;
}

abbrev pub decreases-loop-self : goal.decreases-loop-self
decreases-loop-self g l = l.count - l.self.end
