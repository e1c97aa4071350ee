use Rattle.std.proofs.Common.{subst}
use Rattle.hprof_stream.specs.declared.limits.Limits.{Limits}
use Rattle.hprof_engine.specs.Joining.{fault_of}
use Rattle.hprof_engine.specs.Makes.{Makes}
use Rattle.hprof_stored.specs.StoredMaking.{stored_making}
use Rattle.hprof_tool.proofs.Making.{are_usual}
use Rattle.hprof_tool.proofs.program.made.make_again.Goals as goal

pub returns : goal.returns
returns g c =
    let usual = c.usual.ensures in
    subst (λ (limits : Limits). Makes g.R.Source.left g.R.Source.health g.R.Source.pulls g.W.Target.written g.W.Target.health limits
    (stored_making (g.M.PassProduct.is_text c.args.product.now) (g.M.PassProduct.refuses c.args.product.now)) c.args.readers.now
    c.make_stored.new.readers c.args.target.now c.make_stored.new.target (fault_of c.make_stored.result))
    (are_usual c.usual.result usual.item usual.reads usual.bytes) c.make_stored.ensures
