use Rattle.std.proofs.Common.{Some, Ok, Err, sym, subst}
use Rattle.hprof_heap.specs.Heap.{heap_of}
use Rattle.hprof_engine.specs.declared.tool_fault.ToolFault.{ToolFault}
use Rattle.hprof_engine.specs.Makes.{Makes, making_of}
use Rattle.hprof_engine.proofs.Answers.{summaries_held}
use Rattle.hprof_engine.proofs.Making.{refused, ended}
use Rattle.hprof_engine.proofs.make.make_to.Goals as goal

pub returns-in-Err-clause-makes : goal.returns-in-Err-clause-makes
returns-in-Err-clause-makes g c =
    let e = c.in-Err.ensures in
    refused g.R.Source.left g.R.Source.health g.R.Source.pulls g.W.Target.written g.W.Target.health c.args.limits _
    c.args.readers.now c.read_heap.new.readers c.args.target.now c.in-Err.fault e.kind e.reads e.no_other

pub returns-in-Ok-write-clause-makes : goal.returns-in-Ok-write-clause-makes
returns-in-Ok-write-clause-makes g c =
    let e = c.in-Ok-read_heap.ensures in
    ended g.R.Source.left g.R.Source.health g.R.Source.pulls c.args.limits c.args.readers.now c.read_heap.new.readers
    g.W.Target.written g.W.Target.health (g.P.Product.is_text c.args.product.now) (g.P.Product.refuses c.args.product.now)
    (g.P.Summaries.takes_room c.args.product.now) (g.P.Product.takes_memory c.args.product.now) c.args.target.now c.write.new.target
    (heap_of c.in-Ok-read_heap.heap) e.told.summaries e.ok
    (summaries_held g.R.Source.left (g.P.Summaries.holds c.args.product.now) c.args.readers.now _ e.told) e.reads (Ok c.in-Ok-write.field-0)
    (c.in-Ok-write.ensures e.told.summaries e.told.held)

pub returns-clause-makes : goal.returns-clause-makes
returns-clause-makes g c =
    let e = c.in-Ok-read_heap.ensures in
    subst (λ (fault : ToolFault). Makes g.R.Source.left g.R.Source.health g.R.Source.pulls g.W.Target.written g.W.Target.health
    c.args.limits
    (making_of (g.P.Product.is_text c.args.product.now) (g.P.Product.refuses c.args.product.now)
    (g.P.Summaries.takes_room c.args.product.now)
    (g.P.Product.takes_memory c.args.product.now)) c.args.readers.now c.read_heap.new.readers
    c.args.target.now c.write.new.target (Some fault)) (sym c.from.ensures)
    (ended g.R.Source.left g.R.Source.health g.R.Source.pulls c.args.limits c.args.readers.now c.read_heap.new.readers
    g.W.Target.written g.W.Target.health (g.P.Product.is_text c.args.product.now) (g.P.Product.refuses c.args.product.now)
    (g.P.Summaries.takes_room c.args.product.now) (g.P.Product.takes_memory c.args.product.now) c.args.target.now c.write.new.target
    (heap_of c.in-Ok-read_heap.heap) e.told.summaries e.ok
    (summaries_held g.R.Source.left (g.P.Summaries.holds c.args.product.now) c.args.readers.now _ e.told) e.reads (Err c.in-Err-write.stop)
    (c.in-Err-write.ensures e.told.summaries e.told.held))
