use Rattle.std.proofs.Common.{◌≡◌, ◌+◌, ◌-◌, ◌++◌, ℕ, List, take, subst, sym, ◌∙◌, arith, rules}
use Rattle.std.proofs.lemmas.Result.{err_from_is_err_and}
use Rattle.std.specs.Prelude.{sum}
use borrow.Rule.Slice.PartMut.{put_mid}
use Rattle.std.specs.Io.KnownBytes.{Appends}
use Rattle.hprof_values.specs.declared.ids.IdSize.{IdSize}
use Rattle.hprof_values.specs.declared.number_writing.Number.{Number}
use Rattle.hprof_values.specs.FieldGroups.{field_bytes, FitFields}
use Rattle.hprof_values.specs.Numbers.{number_widths, number_values}
use Rattle.hprof_values.proofs.FieldGroups.{length-fields}
use Rattle.hprof_writing.proofs.Fronts.{front_parts}
use Rattle.hprof_devices.proofs.Writes.{WritesFront, Writes-then, Writes-stops}
use Rattle.hprof_writing.proofs.front_writing.write_front.Goals as goal

-- the piece that is pushed first
pushed : (ids : IdSize) (head fields : List Number) (back rest held part : List ℕ) (begin len k : ℕ)
    → FitFields (number_widths ids head) (number_values head)
    → FitFields (number_widths ids fields) (number_values fields) → held ≡ field_bytes (number_widths ids head) (number_values head) ++ back
    → part ≡ field_bytes (number_widths ids fields) (number_values fields) ++ rest → begin ≡ sum (number_widths ids head)
    → len ≡ sum (number_widths ids fields)
    → take (begin + len) (put_mid begin k held part) ≡ field_bytes (number_widths ids head) (number_values head) ++ field_bytes
    (number_widths ids fields) (number_values fields)
pushed ids head fields back rest held part begin len k fits fits_too e f begins ends =
    let a = length-fields (number_widths ids head) (number_values head) fits in
    let b = length-fields (number_widths ids fields) (number_values fields) fits_too in
    front_parts _ _ back rest held part begin (begin + len) k e f (begins ∙ sym a) (omega arith)

pub returns-in_err-push_all-clause-bytes : goal.returns-in_err-push_all-clause-bytes
returns-in_err-push_all-clause-bytes g c =
    let p = err_from_is_err_and c.from_residual.result c.from_residual.ensures.1 in
    let front = pushed c.args.ids c.args.head.now c.args.fields.now _ _ c.put_numbers.new.out c.put_numbers-2.new.out
    c.numbers_len-begin.result c.numbers_len.result (80 - c.numbers_len-begin.result)
    c.requires.head c.requires.fields c.put_numbers.ensures c.put_numbers-2.ensures c.numbers_len-begin.ensures c.numbers_len.ensures in
    Writes-stops _ _ c.from_residual.result p.0 _ c.args.more.now p.1 (subst (WritesFront _ _) front c.in_err-push_all.ensures.bytes)

pub returns-clause-bytes : goal.returns-clause-bytes
returns-clause-bytes g c =
    let front = pushed c.args.ids c.args.head.now c.args.fields.now _ _ c.put_numbers.new.out c.put_numbers-2.new.out
    c.numbers_len-begin.result c.numbers_len.result (80 - c.numbers_len-begin.result)
    c.requires.head c.requires.fields c.put_numbers.ensures c.put_numbers-2.ensures c.numbers_len-begin.ensures c.numbers_len.ensures in
    Writes-then _ _ _ c.in_ok-push_all.field-0 c.push_all-2.result _ c.args.more.now
    (subst (Appends _ _) front c.in_ok-push_all.ensures.bytes) c.push_all-2.ensures.bytes

pub returns-clause-health : goal.returns-clause-health
returns-clause-health g c = search rules

pub returns-in_err-push_all-clause-health : goal.returns-in_err-push_all-clause-health
returns-in_err-push_all-clause-health g c = search rules
