use Rattle.std.proofs.Common.{subst}
use Rattle.hprof_stream.specs.declared.limits.Limits.{Limits}
use Rattle.hprof_stored.specs.SalvagingStored.{SalvagesStored}
use Rattle.hprof_tool.proofs.Making.{are_usual}
use Rattle.hprof_tool.proofs.program.salvaging.salvage_again.Goals as goal

pub returns : goal.returns
returns g c =
    let usual = c.usual.ensures in
    subst (λ (limits : Limits). SalvagesStored g.R.Source.left g.R.Source.health g.R.Source.pulls limits c.args.readers.now
    c.salvage_stored.new.readers g.W.Target.written g.W.Target.health c.args.target.now c.salvage_stored.new.target
    c.salvage_stored.result)
    (are_usual c.usual.result usual.item usual.reads usual.bytes) c.salvage_stored.ensures.salvages
