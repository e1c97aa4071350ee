use Rattle.std.proofs.Common.{inl}
use Rattle.hprof_stream.proofs.Stepping.{start_outside}
use Rattle.hprof_stream.proofs.Walks.{Walks-none}
use Rattle.hprof_stream.proofs.progress.Progress.walk_subs.Goals as goal

pub returns-in_default-clause-walk : goal.returns-in_default-clause-walk
returns-in_default-clause-walk g c = (
  Walks-none g.S.Sink.begins g.S.Sink.steps c.args.self.now.limits.max_item c.args.self.now c.args.bytes.now c.args.sink.now,
  inl (start_outside c.args.self.now c.in_default.is),
)
