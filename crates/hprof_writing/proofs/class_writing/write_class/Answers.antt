use Rattle.std.proofs.Common.{ℕ, List, ◌++◌, subst, ◌∙◌, append_assoc, rules}
use Rattle.std.proofs.lemmas.Result.{err_from_is_err_and}
use Rattle.hprof_values.specs.FieldGroups.{field_bytes}
use Rattle.hprof_values.specs.Numbers.{number_widths, number_values}
use Rattle.hprof_devices.specs.Device.{Writes}
use Rattle.hprof_devices.proofs.Writes.{WritesFront-then, Writes-then, Writes-stops}
use Rattle.hprof_writing.specs.ClassFronts.{counted}
use Rattle.hprof_writing.proofs.ClassFitting.{class_parts}
use Rattle.hprof_writing.proofs.class_writing.write_class.Goals as goal

pub returns-in_err-write_list-clause-bytes : goal.returns-in_err-write_list-clause-bytes
returns-in_err-write_list-clause-bytes g c =
    let front = c.in-Some.front in
    let parts = class_parts c.args.ids c.args.fact.now front.fields _ _ _ c.in-Some.ensures.some in
    let p = err_from_is_err_and c.from_residual.result c.from_residual.ensures.1 in
    let more : List ℕ = counted front.statics.count front.statics.bytes.now ++ counted front.own.count front.own.bytes.now in
    subst (Writes _ _ c.from_residual.result) parts (Writes-stops _ _ c.from_residual.result p.0 _ more p.1
    c.in_err-write_list.ensures.bytes)

pub returns-in_err-write_list-2-clause-bytes : goal.returns-in_err-write_list-2-clause-bytes
returns-in_err-write_list-2-clause-bytes g c =
    let front = c.in-Some.front in
    let parts = class_parts c.args.ids c.args.fact.now front.fields _ _ _ c.in-Some.ensures.some in
    let p = err_from_is_err_and c.from_residual-in_err-write_list-2.result c.from_residual-in_err-write_list-2.ensures.1 in
    let begun : List ℕ = field_bytes (number_widths c.args.ids front.fields) (number_values front.fields)
    ++ counted front.constants.count front.constants.bytes.now in
    let statics : List ℕ = counted front.statics.count front.statics.bytes.now in
    let own : List ℕ = counted front.own.count front.own.bytes.now in
    let written = WritesFront-then _ _ _ begun statics c.in_ok-write_list.ensures.bytes c.in_err-write_list-2.ensures.bytes in
    subst (Writes _ _ c.from_residual-in_err-write_list-2.result) (append_assoc begun statics own ∙ parts)
    (Writes-stops _ _ c.from_residual-in_err-write_list-2.result p.0 _ own p.1 written)

pub returns-clause-bytes : goal.returns-clause-bytes
returns-clause-bytes g c =
    let front = c.in-Some.front in
    let parts = class_parts c.args.ids c.args.fact.now front.fields _ _ _ c.in-Some.ensures.some in
    let begun : List ℕ = field_bytes (number_widths c.args.ids front.fields) (number_values front.fields)
    ++ counted front.constants.count front.constants.bytes.now in
    let statics : List ℕ = counted front.statics.count front.statics.bytes.now in
    let own : List ℕ = counted front.own.count front.own.bytes.now in
    let more = Writes-then _ _ _ c.in_ok-write_list-2.field-0 c.write_list-3.result statics own c.in_ok-write_list-2.ensures.bytes
    c.write_list-3.ensures.bytes in
    subst (Writes _ _ c.write_list-3.result) parts (Writes-then _ _ _ c.in_ok-write_list.field-0 c.write_list-3.result begun
    (statics ++ own)
    c.in_ok-write_list.ensures.bytes more)

pub returns-clause-health : goal.returns-clause-health
returns-clause-health g c = search rules

pub returns-in_err-write_list-2-clause-health : goal.returns-in_err-write_list-2-clause-health
returns-in_err-write_list-2-clause-health g c = search rules

pub returns-in_err-write_list-clause-health : goal.returns-in_err-write_list-clause-health
returns-in_err-write_list-clause-health g c = search rules
