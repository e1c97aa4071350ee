-- The printed form of a name, which is this project's own.
use Rattle.std.specs.Prelude.{◌≡◌, ℕ, ◌/◌, ◌%◌, nat_le, ◌==◌, ◌&&◌, not, if◌then◌else◌, Bool, true, false, List, [], ◌∷◌, ◌++◌, codes}
use Rattle.std.specs.List.{flat_map}
use Rattle.hex.specs.Hex.{encode_lower}
use Rattle.hprof_text.specs.ModifiedUtf8.{IsModifiedUtf8, HasUnits}

-- Whether a unit is printed as itself: from 0x20 to 0x7e, but for the backslash.
abbrev pub is_plain : ℕ → Bool
is_plain unit = nat_le 0x20 unit && nat_le unit 0x7e && not (unit == 0x5c)

-- Another unit in print: `\u` and four lower-case hexadecimal digits.
abbrev pub escaped_unit : ℕ → List ℕ
escaped_unit unit = codes "\\u" ++ encode_lower ((unit / 256) ∷ (unit % 256) ∷ [])

-- A unit in print.
unfoldable pub printed_unit : ℕ → List ℕ
printed_unit unit = if is_plain unit then unit ∷ [] else escaped_unit unit

-- The text is the units of the bytes in print.
abbrev pub PrintsUnits : List ℕ → List ℕ → Type 0
PrintsUnits bytes text =
    (units : List ℕ) × IsModifiedUtf8 units bytes × (text ≡ flat_map printed_unit units)

-- All of the bytes are units and the text is they in print, or the bytes have no units.
abbrev pub PrintsIfUnits : List ℕ → Bool → List ℕ → Type 0
PrintsIfUnits bytes true text = PrintsUnits bytes text
PrintsIfUnits bytes false text = ¬ (HasUnits bytes)

-- Other bytes in print: `\x` and all of them in lower-case hexadecimal.
abbrev pub printed_bytes : List ℕ → List ℕ
printed_bytes bytes = codes "\\x" ++ encode_lower bytes

-- The text is the bytes in print: their units where they are modified UTF-8, and else the bytes.
pub record IsPrinted (bytes text : List ℕ) : Type 0 where
  pub of_units : (units : List ℕ) → IsModifiedUtf8 units bytes → text ≡ flat_map printed_unit units
  pub of_bytes : ¬ (HasUnits bytes) → text ≡ printed_bytes bytes
