use Rattle.std.proofs.Common.{subst}
use Rattle.hprof_stream.specs.declared.limits.Limits.{Limits}
use Rattle.hprof_engine.specs.Joining.{fault_of}
use Rattle.hprof_engine.specs.Makes.{Makes}
use Rattle.hprof_stored101.specs.StoredMaking101.{stored_dump101_making}
use Rattle.hprof_tool.proofs.Making.{are_usual}
use Rattle.hprof_tool.proofs.program.made.join101_again.Goals as goal

pub returns : goal.returns
returns g c =
    let usual = c.usual.ensures in
    let made = c.join101_stored in
    subst (λ (limits : Limits). Makes g.R.Source.left g.R.Source.health g.R.Source.pulls g.W.Target.written g.W.Target.health limits
    stored_dump101_making c.args.readers.now made.new.readers c.args.target.now made.new.target (fault_of made.result))
    (are_usual c.usual.result usual.item usual.reads usual.bytes) made.ensures
