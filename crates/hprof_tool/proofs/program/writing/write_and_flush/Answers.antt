use Rattle.std.proofs.Common.{ap, refl, ◌∙◌}
use Rattle.std.specs.Io.KnownBytes.{append_known}
use Rattle.std.specs.Io.Buffered.{writer_contents, writer_inner}
use Rattle.hprof_devices.specs.Device.{inner_of, health_of}
use Rattle.hprof_engine.specs.Joining.{fault_of}
use Rattle.hprof_tool.proofs.Making.{shown, streamed, untouched}
use Rattle.hprof_tool.proofs.program.writing.write_and_flush.Goals as goal

pub returns-clause-makes : goal.returns-clause-makes
returns-clause-makes g c =
    let contents = writer_contents g.W.Write.contents in
    let making = g.P.Made.making c.args.product.now in
    let before = c.new-target.result in
    let after = c.make-made.new.target in
    let end = c.take_apart in
    let made = c.make-made.result in
    let m = shown g.R.Source.left g.R.Source.health g.R.Source.pulls c.args.readers.now c.make-made.new.readers
    (λ device. contents (inner_of device)) health_of making before after (fault_of made) c.make-made.ensures in
    let holds = append_known (g.W.Write.contents end.result.writer) end.result.unwritten.items in
    streamed g.R.Source.left g.R.Source.health g.R.Source.pulls c.args.readers.now c.make-made.new.readers making
    (contents (inner_of before)) (contents (inner_of after)) holds (health_of before) (health_of after)
    (contents c.args.buffered) holds made end.result.outcome (ap contents c.new-target.ensures.inner) c.new-target.ensures.health
    refl m end.ensures.failed end.ensures.refused end.ensures.bytes end.ensures.unchanged

pub returns-clause-untouched : goal.returns-clause-untouched
returns-clause-untouched g c = λ none.
    let end = c.take_apart in
    untouched (writer_inner c.args.buffered) (writer_inner (inner_of c.make-made.new.target)) end.result.writer
    c.make-made.result end.result.outcome end.ensures.failed end.ensures.refused end.ensures.untouched
    (λ made. ap (λ device. writer_inner (inner_of device)) (c.make-made.ensures.unwritten made)
    ∙ ap writer_inner c.new-target.ensures.inner) none
