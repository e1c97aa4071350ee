-- What the front of a sub-record says of whether the fact fits, and how long it is.
use Rattle.std.proofs.Common.{◌≡◌, ◌↔◌, ◌+◌, ◌≤◌, ◌<◌, ℕ, List, length, Option, subst, sym, ap, arith}
use Rattle.std.specs.Prelude.{sum}
use Rattle.hprof_values.specs.declared.ids.IdSize.{IdSize}
use Rattle.hprof_values.specs.declared.number_writing.Number.{Number}
use Rattle.hprof_values.specs.declared.record_tag.RecordTag.{RecordTag}
use Rattle.hprof_values.specs.declared.sub_tag.SubTag.{SubTag}
use Rattle.hprof_values.specs.FieldGroups.{FitFields}
use Rattle.hprof_values.specs.Numbers.{number_widths, number_values}
use Rattle.hprof_items.specs.declared.fact.Fact.{Fact}
use Rattle.hprof_items.specs.FactValue.{value_of, ListsHave}
use Rattle.hprof_items.specs.SubRecord.{dump_bytes}
use Rattle.hprof_items.specs.Spelling.{longest_body, spelled_as, spelling, Fits, FitsAs}
use Rattle.hprof_writing.proofs.Lengths.{length-tagged}
use Rattle.hprof_writing.specs.SubFronts.{IsSubFront}

-- a fact fits if its fields do, and its tag, its fields and the bytes behind them are not too many
pub sub_front_fits : (ids : IdSize) (fact : Fact) (tag : SubTag) (fields : List Number) (more : List ℕ)
    → IsSubFront ids fact tag fields more
    → (FitFields (number_widths ids fields) (number_values fields) × (sum (number_widths ids fields) + (length more + 1) ≤ longest_body))
    ↔ (Fits ids (value_of fact) × ListsHave ids fact)
sub_front_fits ids fact tag fields more front =
    let len = ap length front.spelled in (
      λ both.
          let short : length (dump_bytes ids (value_of fact)) ≤ longest_body =
          omega (arith, length-tagged tag (number_widths ids fields) (number_values fields) more both.0, len) in
          (subst (λ (o : Option RecordTag). FitsAs ids o (value_of fact)) (sym front.is) (front.fits.0 both.0, short), front.lists),
      λ fits.
          let dump = subst (λ (o : Option RecordTag). FitsAs ids o (value_of fact)) front.is fits.0 in
          let numbers = front.fits.1 dump.0 in
          (numbers, omega (arith, length-tagged tag (number_widths ids fields) (number_values fields) more numbers, len, dump.1)),
    )

-- how long the sub-record of a fact that fits is
pub sub_front_len : (ids : IdSize) (fact : Fact) (tag : SubTag) (fields : List Number) (more : List ℕ)
    → IsSubFront ids fact tag fields more → Fits ids (value_of fact)
    → (1 + sum (number_widths ids fields) + length more ≡ length (spelling ids (value_of fact)))
    × (sum (number_widths ids fields) + length more < longest_body)
sub_front_len ids fact tag fields more front fits =
    let dump = subst (λ (o : Option RecordTag). FitsAs ids o (value_of fact)) front.is fits in
    let numbers = front.fits.1 dump.0 in
    let len = length-tagged tag (number_widths ids fields) (number_values fields) more numbers in
    let same = ap length front.spelled in
    let spelled : length (dump_bytes ids (value_of fact)) ≡ length (spelling ids (value_of fact)) =
    ap (λ (o : Option RecordTag). length (spelled_as ids o (value_of fact))) (sym front.is) in
    (omega (arith, len, same, spelled), omega (arith, len, same, dump.1))
