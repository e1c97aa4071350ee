use Rattle.std.proofs.Common.{ap, subst, ◌∙◌, rules}
use Rattle.std.specs.Fmt.{decimal}
use Rattle.hprof_devices.specs.Device.{Writes}
use Rattle.hprof_reports.proofs.CheckLines.{part_line_of}
use Rattle.hprof_reports.proofs.check.write_part.Goals as goal

pub returns-clause-bytes : goal.returns-clause-bytes
returns-clause-bytes g c =
    subst (Writes (g.W.Target.written c.args.target.now) (g.W.Target.written c.write_pieces.new.target) c.write_pieces.result)
    (part_line_of c.args.number c.args.part.now c.as_bytes.result.now c.version_text.result.now c.as_bytes-2.result.now
    c.as_bytes-3.result.now c.as_bytes-4.result.now c.as_bytes-5.result.now c.yes_or_no.result.now
    (c.as_bytes.ensures.value ∙ c.format.ensures.text)
    c.version_text.ensures
    (c.as_bytes-2.ensures.value ∙ c.format-2.ensures.text ∙ ap decimal c.width.ensures)
    (c.as_bytes-3.ensures.value ∙ c.format-3.ensures.text)
    (c.as_bytes-4.ensures.value ∙ c.format-4.ensures.text)
    (c.as_bytes-5.ensures.value ∙ c.format-5.ensures.text)
    c.yes_or_no.ensures)
    c.write_pieces.ensures.bytes

pub returns-clause-health : goal.returns-clause-health
returns-clause-health g c = search rules
