use Rattle.std.proofs.Common.{None, Some, subst}
use Rattle.hprof_stream.specs.declared.limits.Limits.{Limits}
use Rattle.hprof_engine.specs.Makes.{Makes, making_of}
use Rattle.hprof_tool.proofs.Making.{are_usual}
use Rattle.hprof_tool.proofs.program.made.make_of_heap.Goals as goal

pub returns-in-Ok : goal.returns-in-Ok
returns-in-Ok g c =
    let usual = c.usual.ensures in
    subst (λ (limits : Limits). Makes g.R.Source.left g.R.Source.health g.R.Source.pulls
    g.W.Target.written g.W.Target.health limits
    (making_of (g.P.Product.is_text c.args.product.now) (g.P.Product.refuses c.args.product.now)
    (g.P.Summaries.takes_room c.args.product.now) (g.P.Product.takes_memory c.args.product.now)) c.args.readers.now c.make_to.new.readers
    c.args.target.now c.make_to.new.target
    None) (are_usual c.usual.result usual.item usual.reads usual.bytes) c.in-Ok.ensures.makes

pub returns-in-Err : goal.returns-in-Err
returns-in-Err g c =
    let usual = c.usual.ensures in
    subst (λ (limits : Limits). Makes g.R.Source.left g.R.Source.health g.R.Source.pulls
    g.W.Target.written g.W.Target.health limits
    (making_of (g.P.Product.is_text c.args.product.now) (g.P.Product.refuses c.args.product.now)
    (g.P.Summaries.takes_room c.args.product.now) (g.P.Product.takes_memory c.args.product.now)) c.args.readers.now c.make_to.new.readers
    c.args.target.now c.make_to.new.target
    (Some c.in-Err.fault)) (are_usual c.usual.result usual.item usual.reads usual.bytes) c.in-Err.ensures.makes
