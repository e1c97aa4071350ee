use Rattle.std.proofs.Common.{Ok, subst}
use Rattle.hprof_stream.specs.declared.limits.Limits.{Limits}
use Rattle.hprof_engine.specs.Salvaging.{Salvages}
use Rattle.hprof_tool.proofs.Making.{are_usual}
use Rattle.hprof_tool.proofs.program.salvaging.salvage_of_heap.Goals as goal

pub returns-in-Ok : goal.returns-in-Ok
returns-in-Ok g c =
    let usual = c.usual.ensures in
    subst (λ (limits : Limits). Salvages g.R.Source.left g.R.Source.health g.R.Source.pulls limits c.args.readers.now
    c.salvage_returning_heap.new.readers g.W.Target.written g.W.Target.health c.args.target.now c.salvage_returning_heap.new.target
    (Ok c.in-Ok.kept.salvaged)) (are_usual c.usual.result usual.item usual.reads usual.bytes) c.in-Ok.ensures.salvages
