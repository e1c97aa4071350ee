use Rattle.std.proofs.Common.{None, Some, subst}
use Rattle.std.specs.Io.Buffered.{writer_contents}
use Rattle.hprof_devices.specs.Buffered.{buffered_health, buffered_of}
use Rattle.hprof_stream.specs.declared.limits.Limits.{Limits}
use Rattle.hprof_ask.specs.Asks.{Asks}
use Rattle.hprof_tool.proofs.Conversing.{of_kept}
use Rattle.hprof_tool.proofs.Making.{are_usual}
use Rattle.hprof_tool.proofs.program.conversing.ask_in_memory.Goals as goal

pub returns-in-Ok-clause-asks : goal.returns-in-Ok-clause-asks
returns-in-Ok-clause-asks g c =
    let usual = c.usual.ensures in
    of_kept g.R.Source.left g.R.Source.health g.R.Source.pulls g.Q.Asker.left g.Q.Asker.health g.Q.Asker.pulls
    (λ device. writer_contents g.W.Write.contents (buffered_of device)) buffered_health c.args.readers.now c.ask_returning_heap.new.readers
    c.args.questions.now c.ask_returning_heap.new.questions c.args.target.now c.ask_returning_heap.new.target None
    (subst (λ (limits : Limits). Asks g.R.Source.left g.R.Source.health g.R.Source.pulls g.Q.Asker.left g.Q.Asker.health g.Q.Asker.pulls
    (λ device. writer_contents g.W.Write.contents (buffered_of device)) buffered_health limits c.args.readers.now
    c.ask_returning_heap.new.readers
    c.args.questions.now c.ask_returning_heap.new.questions c.args.target.now c.ask_returning_heap.new.target None)
    (are_usual c.usual.result usual.item usual.reads usual.bytes) c.in-Ok.ensures.asks)

pub returns-in-Err-clause-asks : goal.returns-in-Err-clause-asks
returns-in-Err-clause-asks g c =
    let usual = c.usual.ensures in
    of_kept g.R.Source.left g.R.Source.health g.R.Source.pulls g.Q.Asker.left g.Q.Asker.health g.Q.Asker.pulls
    (λ device. writer_contents g.W.Write.contents (buffered_of device)) buffered_health c.args.readers.now c.ask_returning_heap.new.readers
    c.args.questions.now c.ask_returning_heap.new.questions c.args.target.now c.ask_returning_heap.new.target (Some c.in-Err.fault)
    (subst (λ (limits : Limits). Asks g.R.Source.left g.R.Source.health g.R.Source.pulls g.Q.Asker.left g.Q.Asker.health g.Q.Asker.pulls
    (λ device. writer_contents g.W.Write.contents (buffered_of device)) buffered_health limits c.args.readers.now
    c.ask_returning_heap.new.readers
    c.args.questions.now c.ask_returning_heap.new.questions c.args.target.now c.ask_returning_heap.new.target (Some c.in-Err.fault))
    (are_usual c.usual.result usual.item usual.reads usual.bytes) c.in-Err.ensures.asks)
