use Rattle.std.proofs.Common.{List, ℕ, subst}
use Rattle.hprof_devices.specs.Device.{Writes}
use Rattle.hprof_tool.specs.Telling.{told_line}
use Rattle.hprof_tool.proofs.Telling.{front_of}
use Rattle.hprof_tool.proofs.program.telling.tell_line.Goals as goal

pub returns : goal.returns
returns g c =
    let old = g.W.Write.contents c.args.writer.now in
    let new = g.W.Write.contents c.write_line_behind.new.writer in
    front_of old new c.write_line_behind.result (told_line c.args.text.now)
    (subst (λ (text : List ℕ). Writes old new c.write_line_behind.result (told_line text)) c.as_bytes.ensures.value
    c.write_line_behind.ensures)
