use Rattle.hprof_runs.proofs.Lengths.{passed_lengths}
use Rattle.hprof_runs.proofs.ahead.Ahead.pass.Goals as goal

pub returns-then-count-self : goal.returns-then-count-self
returns-then-count-self c = λ places are is.
    passed_lengths c.args.bytes.now places c.args.behind.now c.args.self.now.lengths c.args.self.now.passed c.args.count are is
