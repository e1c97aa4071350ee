use Rattle.std.proofs.Common.{subst}
use Rattle.std.specs.Io.Buffered.{writer_contents}
use Rattle.hprof_devices.specs.Buffered.{buffered_health, buffered_of}
use Rattle.hprof_stream.specs.declared.limits.Limits.{Limits}
use Rattle.hprof_ask.specs.Asks.{fault_of_asking}
use Rattle.hprof_large.specs.AskingStored.{AsksStored}
use Rattle.hprof_tool.proofs.Conversing.{of_stored}
use Rattle.hprof_tool.proofs.Making.{are_usual}
use Rattle.hprof_tool.proofs.program.conversing.ask_again.Goals as goal

pub returns-clause-asks : goal.returns-clause-asks
returns-clause-asks g c =
    let usual = c.usual.ensures in
    of_stored g.R.Source.left g.R.Source.health g.R.Source.pulls g.Q.Asker.left g.Q.Asker.health g.Q.Asker.pulls
    (λ device. writer_contents g.W.Write.contents (buffered_of device)) buffered_health c.args.readers.now c.ask_stored.new.readers
    c.args.questions.now c.ask_stored.new.questions c.args.target.now c.ask_stored.new.target (fault_of_asking c.ask_stored.result)
    (subst (λ (limits : Limits). AsksStored g.R.Source.left g.R.Source.health g.R.Source.pulls g.Q.Asker.left g.Q.Asker.health
    g.Q.Asker.pulls
    (λ device. writer_contents g.W.Write.contents (buffered_of device)) buffered_health limits c.args.readers.now c.ask_stored.new.readers
    c.args.questions.now c.ask_stored.new.questions c.args.target.now c.ask_stored.new.target (fault_of_asking c.ask_stored.result))
    (are_usual c.usual.result usual.item usual.reads usual.bytes) c.ask_stored.ensures.asks)
