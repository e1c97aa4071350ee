-- The elements of an array of numbers: a text, or so many a line.
use Rattle.std.proofs.Common.{◌≡◌, ℕ, ◌+◌, ◌-◌, ◌/◌, ◌<◌, ◌≤◌, suc, List, [], ◌++◌, length, codes, refl, sym, ap, ◌∙◌}
use Rattle.std.proofs.Common.{append_assoc, append-nil, arith}
use Rattle.std.specs.Prelude.{min}
use Rattle.std.specs.Fmt.{decimal}
use Rattle.std.specs.List.{flat_map, range_with_len}
use Rattle.hprof_values.specs.declared.ids.IdSize.{IdSize}
use Rattle.hprof_values.specs.declared.basic.Basic.{Basic}
use Rattle.hprof_values.specs.declared.basic.Basic.TheVariants as basics
use Rattle.hprof_values.specs.Basic.{width_of_basic}
use Rattle.hprof_describe.specs.Findings.{Findings}
use Rattle.hprof_show.specs.ElementLines.{more_line}
use Rattle.hprof_show.specs.NumberLines.{number_text, numbers_text, quoted_line, row_line, rows_text, values_text}

-- the first of so many places, and the others
pub first_place : (f : ℕ → List ℕ) (at end : ℕ) → at < end
    → flat_map f (range_with_len at (end - at)) ≡ f at ++ flat_map f (range_with_len (at + 1) (end - (at + 1)))
first_place f at end before = let e : end - at ≡ suc (end - (at + 1)) = omega arith in rw e refl

-- behind the last there are none
pub no_place : (f : ℕ → List ℕ) (at end : ℕ) → end ≤ at → flat_map f (range_with_len at (end - at)) ≡ []
no_place f at end behind = let e : end - at ≡ 0 = omega arith in rw e refl

-- ---- the text of a line

-- before the first element
pub row_begins : (found : Findings) (elem : Basic) (bytes line : List ℕ) (count place most : ℕ)
    → line ≡ codes "  " ++ (decimal place ++ codes " =") → most ≡ min 16 (count - place)
    → row_line found elem bytes count place
    ≡ line ++ flat_map (number_text found elem bytes) (range_with_len place ((place + most) - place)) ++ codes "\n"
row_begins found elem bytes line count place most begins few =
    let as_many : (place + most) - place ≡ min 16 (count - place) = omega (arith, few) in
    rw (as_many, begins)
    (ap (λ (front : List ℕ). front ++ flat_map (number_text found elem bytes) (range_with_len place (min 16 (count - place))) ++ codes "\n")
    (append_assoc (codes "  ") (decimal place) (codes " =")))

module _ (f : ℕ → List ℕ) (all line longer : List ℕ) (at end : ℕ)
    (was : all ≡ line ++ flat_map f (range_with_len at (end - at)) ++ codes "\n") where
  -- one element more
  pub row_more : at < end → longer ≡ line ++ f at
      → all ≡ longer ++ flat_map f (range_with_len (at + 1) (end - (at + 1))) ++ codes "\n"
  row_more before pushed =
      let rest = flat_map f (range_with_len (at + 1) (end - (at + 1))) in
      was ∙ ap (λ (left : List ℕ). line ++ left ++ codes "\n") (first_place f at end before)
      ∙ ap (λ (text : List ℕ). text ++ codes "\n") (sym (append_assoc line (f at) rest))
      ∙ ap (λ (front : List ℕ). front ++ rest ++ codes "\n") (sym pushed)

  -- behind the last element
  pub row_ends : end ≤ at → longer ≡ line ++ codes "\n" → longer ≡ all
  row_ends behind pushed =
      pushed ∙ sym (was ∙ ap (λ (left : List ℕ). line ++ left ++ codes "\n") (no_place f at end behind)
      ∙ ap (λ (front : List ℕ). front ++ codes "\n") (append-nil line))

-- ---- all numbers, and a text before them

pub numbers_parts : (found : Findings) (elem : Basic) (bytes : List ℕ) (size there : IdSize) (width told : ℕ) → found.ids ≡ size
    → there ≡ size → width ≡ width_of_basic there elem → told ≡ min 256 (length bytes / width)
    → rows_text found elem bytes told ++ more_line 256 (length bytes / width) ≡ numbers_text found elem bytes
unfolding numbers_text
numbers_parts found elem bytes size there width told wanted is wide few =
    let same : there ≡ found.ids = is ∙ sym wanted in rw (few, wide, same) refl

pub bytes_parts : (found : Findings) (elem : Basic) (bytes : List ℕ) → elem ≡ basics.Byte
    → quoted_line bytes ++ numbers_text found elem bytes ≡ values_text found elem bytes
bytes_parts found elem bytes e = rw e refl
