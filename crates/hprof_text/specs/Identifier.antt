-- Identifiers as text, this project's own: hexadecimal digits.
use Rattle.std.specs.Prelude.{◌≡◌, ℕ, ◌<◌, ◌≤◌, ◌⊎◌, false, List, length, slice_index, codes}
use Rattle.std.specs.Int.{IsInRange}
use Rattle.std.specs.List.{All}
use Rattle.std.specs.Fmt.{digits}
use Rattle.std.specs.Str.Parse.{IsNumeral, digits_value}

-- The lower-case hexadecimal digits of an identifier without leading zeros, and `0` for 0.
abbrev pub id_digits : ℕ → List ℕ
id_digits id = digits 16 false id

-- A lower-case hexadecimal digit: `0` to `9`, and `a` to `f`.
abbrev pub IsLowerDigit : ℕ → Type 0
IsLowerDigit c = IsInRange 48 57 c ⊎ IsInRange 97 102 c

-- The text is digits of the identifier in lower case, with a leading zero only where it is alone.
pub record AreIdDigits (id : ℕ) (text : List ℕ) : Type 0 where
  pub lower : All IsLowerDigit text
  pub some : 0 < length text
  pub value : digits_value 16 text ≡ id
  pub leading : slice_index text 0 ≡ 48 → text ≡ codes "0"

-- One to sixteen hexadecimal digits of either case, and nothing else.
pub record IsIdText (text : List ℕ) : Type 0 where
  pub digits : IsNumeral 16 text
  pub at_most_sixteen : length text ≤ 16

-- The number that the digits write.
abbrev pub id_value : List ℕ → ℕ
id_value text = digits_value 16 text
