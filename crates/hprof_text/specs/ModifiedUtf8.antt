-- Modified UTF-8, as the Java Virtual Machine Specification has it in section 4.4.7, in its
-- shortest forms only.
use Rattle.std.specs.Prelude.{◌≡◌, ◌≢◌, ℕ, ◌+◌, ◌/◌, ◌%◌, ◌^◌, ◌<◌, nat_le, ◌&&◌, if◌then◌else◌, List, [], ◌∷◌, ◌++◌, Option, Some, None}
use Rattle.std.specs.List.{All, flat_map}

-- The bytes of one unit, by the rows of the table: 0xxxxxxx for 0x01 to 0x7f, 110xxxxx 10xxxxxx for
-- 0 and for 0x80 to 0x7ff, and 1110xxxx 10xxxxxx 10xxxxxx above.
unfoldable pub unit_bytes : ℕ → List ℕ
unit_bytes unit =
    if nat_le 0x01 unit && nat_le unit 0x7f then unit ∷ []
    else if nat_le unit 0x7ff then (0xc0 + unit / 64) ∷ (0x80 + unit % 64) ∷ []
    else (0xe0 + unit / 4096) ∷ (0x80 + unit / 64 % 64) ∷ (0x80 + unit % 64) ∷ []

-- The bytes are the modified UTF-8 of the units. A supplementary character is two units, its
-- surrogates, and a lone surrogate is a unit like any other.
pub record IsModifiedUtf8 (units bytes : List ℕ) : Type 0 where
  pub in_range : All (λ unit. unit < 2 ^ 16) units
  pub encoded : bytes ≡ flat_map unit_bytes units

-- No unit's bytes stand at the front.
abbrev pub BeginsWithNoUnit : List ℕ → Type 0
BeginsWithNoUnit bytes =
    (unit : ℕ) (rest : List ℕ) → unit < 2 ^ 16 → bytes ≢ unit_bytes unit ++ rest

-- Some units have these bytes.
abbrev pub HasUnits : List ℕ → Type 0
HasUnits bytes = (units : List ℕ) × IsModifiedUtf8 units bytes

-- What bytes decode to: their units, and none exactly where no units have these bytes.
abbrev pub DecodesTo : List ℕ → Option (List ℕ) → Type 0
DecodesTo bytes (Some units) = IsModifiedUtf8 units bytes
DecodesTo bytes None = ¬ (HasUnits bytes)
