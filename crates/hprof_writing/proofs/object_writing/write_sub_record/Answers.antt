use Rattle.std.proofs.Common.{arith, subst}
use Rattle.hprof_values.specs.Numbers.{number_widths, number_values}
use Rattle.hprof_values.proofs.NumberWriting.{widths_most}
use Rattle.hprof_devices.specs.Device.{Writes}
use Rattle.hprof_writing.proofs.Fronts.{tagged_parts}
use Rattle.hprof_writing.proofs.object_writing.write_sub_record.Goals as goal

pub write_front-requires-clause-room : goal.write_front-requires-clause-room
write_front-requires-clause-room g c = omega (arith, widths_most c.args.ids c.args.fields.now)

pub returns-clause-bytes : goal.returns-clause-bytes
returns-clause-bytes g c =
    subst (Writes _ _ c.write_front.result)
    (tagged_parts c.code.result c.args.tag (number_widths c.args.ids c.args.fields.now) (number_values c.args.fields.now)
    c.args.more.now c.code.ensures (omega arith))
    c.write_front.ensures.bytes
