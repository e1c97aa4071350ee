use Rattle.std.proofs.Common.{subst}
use Rattle.hprof_stream.specs.declared.limits.Limits.{Limits}
use Rattle.hprof_engine.specs.Joining.{fault_of}
use Rattle.hprof_engine.specs.Makes.{Makes}
use Rattle.hprof_stored.specs.StoredMaking.{stored_dump_making}
use Rattle.hprof_tool.proofs.Making.{are_usual}
use Rattle.hprof_tool.proofs.program.made.join_again.Goals as goal

pub returns : goal.returns
returns g c =
    let usual = c.usual.ensures in
    subst (λ (limits : Limits). Makes g.R.Source.left g.R.Source.health g.R.Source.pulls g.W.Target.written g.W.Target.health limits
    stored_dump_making c.args.readers.now c.join_stored.new.readers c.args.target.now c.join_stored.new.target
    (fault_of c.join_stored.result))
    (are_usual c.usual.result usual.item usual.reads usual.bytes) c.join_stored.ensures
