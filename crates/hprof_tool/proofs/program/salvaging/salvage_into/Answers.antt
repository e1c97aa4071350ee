use Rattle.std.proofs.Common.{ap, refl}
use Rattle.std.specs.Io.KnownBytes.{append_known}
use Rattle.std.specs.Io.Buffered.{writer_contents}
use Rattle.hprof_devices.specs.Device.{inner_of, health_of}
use Rattle.hprof_tool.proofs.Saving.{shown_saving, streamed_saving}
use Rattle.hprof_tool.proofs.program.salvaging.salvage_into.Goals as goal

pub returns-clause-salvages : goal.returns-clause-salvages
returns-clause-salvages g c =
    let left = g.R.Source.left in
    let health = g.R.Source.health in
    let pulls = g.R.Source.pulls in
    let contents = writer_contents g.W.Write.contents in
    let old = c.args.readers.now in
    let new = c.salvage_parts-saved.new.readers in
    let before = c.new-target.result in
    let after = c.salvage_parts-saved.new.target in
    let end = c.take_apart in
    let made = c.salvage_parts-saved.result in
    let m = shown_saving left health pulls old new (λ device. contents (inner_of device)) health_of before after made
    c.salvage_parts-saved.ensures in
    let holds = append_known (g.W.Write.contents end.result.writer) end.result.unwritten.items in
    streamed_saving left health pulls old new (contents (inner_of before)) (contents (inner_of after)) holds
    (health_of before) (health_of after) (contents c.args.buffered) holds made end.result.outcome
    (ap contents c.new-target.ensures.inner) c.new-target.ensures.health refl m end.ensures.done end.ensures.failed
    end.ensures.refused end.ensures.bytes end.ensures.unchanged
