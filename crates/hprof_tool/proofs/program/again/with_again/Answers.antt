use Rattle.std.proofs.Common.{None}
use Rattle.hprof_tool.proofs.Again.{once_ready}
use Rattle.hprof_tool.proofs.program.again.with_again.Goals as goal

pub returns-clause-ready : goal.returns-clause-ready
returns-clause-ready g c =
    once_ready g.R.Source.left (λ handle. None) g.F.Scratch.Target.written g.F.Scratch.Target.health c.args.part c.requires.untold
    c.again_once.result c.again_once.ensures.nothing c.again_once.ensures.well
