-- Sizes as text, this project's own: decimal digits, and behind them a suffix or nothing.
use Rattle.std.specs.Prelude.{◌≡◌, ℕ, ◌*◌, ◌<◌, ◌^◌, ◌⊎◌, List, [], ◌++◌, codes}
use Rattle.std.specs.Str.Parse.{IsNumeral, digits_value}

-- Decimal digits that write a number below 2^64, and nothing else.
abbrev pub IsDecimal : List ℕ → Type 0
IsDecimal text = IsNumeral 10 text × (digits_value 10 text < 2 ^ 64)

-- A suffix, and the number of bytes that it stands for. The empty one stands for one byte.
abbrev pub IsSuffix : List ℕ → ℕ → Type 0
IsSuffix text bytes = ((text ≡ []) × (bytes ≡ 1))
    ⊎ ((((text ≡ codes "K") ⊎ (text ≡ codes "k")) × (bytes ≡ 2 ^ 10))
    ⊎ ((((text ≡ codes "M") ⊎ (text ≡ codes "m")) × (bytes ≡ 2 ^ 20))
    ⊎ ((((text ≡ codes "G") ⊎ (text ≡ codes "g")) × (bytes ≡ 2 ^ 30))
    ⊎ (((text ≡ codes "T") ⊎ (text ≡ codes "t")) × (bytes ≡ 2 ^ 40)))))

-- The text is decimal digits and a suffix. Its number of bytes is the number of the digits, times that of the suffix.
pub record IsSize (text : List ℕ) (bytes : ℕ) : Type 0 where
  pub digits : List ℕ
  pub suffix : List ℕ
  pub suffix_bytes : ℕ
  pub parts : text ≡ digits ++ suffix
  pub numeral : IsNumeral 10 digits
  pub suffix_is : IsSuffix suffix suffix_bytes
  pub value : bytes ≡ digits_value 10 digits * suffix_bytes
