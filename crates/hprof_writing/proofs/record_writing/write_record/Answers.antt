use Rattle.std.proofs.Common.{ℕ, List, subst, arith, rules}
use Rattle.std.proofs.lemmas.List.{length-append}
use Rattle.hprof_values.specs.FieldGroups.{field_bytes}
use Rattle.hprof_values.specs.Numbers.{number_widths, number_values}
use Rattle.hprof_values.proofs.FieldGroups.{length-fields}
use Rattle.hprof_values.proofs.NumberWriting.{widths_most}
use Rattle.hprof_devices.specs.Device.{Writes}
use Rattle.hprof_writing.proofs.Fronts.{record_parts}
use Rattle.hprof_writing.proofs.record_writing.write_record.Goals as goal

pub numbers_len-requires : goal.numbers_len-requires
numbers_len-requires g c = omega (arith, widths_most c.args.ids c.args.fields.now)

pub overflow_add-len : goal.overflow_add-len
overflow_add-len g c =
    omega (
      arith,
      length-fields _ _ c.requires.fits,
      length-append (field_bytes (number_widths c.args.ids c.args.fields.now)
          (number_values c.args.fields.now)) c.args.more.now,
    )

pub overflow_cast-head : goal.overflow_cast-head
overflow_cast-head g c =
    omega (
      arith,
      length-fields _ _ c.requires.fits,
      length-append (field_bytes (number_widths c.args.ids c.args.fields.now)
          (number_values c.args.fields.now)) c.args.more.now,
    )

pub write_front-requires-clause-head : goal.write_front-requires-clause-head
write_front-requires-clause-head g c =
    let len = length-fields _ _ c.requires.fits in
    let all = length-append (field_bytes (number_widths c.args.ids c.args.fields.now) (number_values c.args.fields.now)) c.args.more.now in
    (omega arith, (omega arith, (omega arith, tt)))

pub write_front-requires-clause-room : goal.write_front-requires-clause-room
write_front-requires-clause-room g c = omega (arith, widths_most c.args.ids c.args.fields.now)

pub returns-clause-bytes : goal.returns-clause-bytes
returns-clause-bytes g c =
    let fields : List ℕ = field_bytes (number_widths c.args.ids c.args.fields.now) (number_values c.args.fields.now) in
    let len = length-fields _ _ c.requires.fits in
    let parts = record_parts c.code.result _ _ (number_widths c.args.ids c.args.fields.now) (number_values c.args.fields.now)
    c.args.more.now c.code.ensures (omega arith)
    (omega (arith, length-append fields c.args.more.now)) in
    subst (Writes _ _ c.write_front.result) parts c.write_front.ensures.bytes

pub returns-clause-health : goal.returns-clause-health
returns-clause-health g c = search rules
