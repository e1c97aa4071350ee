-- Units in print are ASCII.
use Rattle.std.proofs.Common.{◌≡◌, ℕ, ◌/◌, ◌%◌, ◌<◌, Bool, true, false, cond, List, [], ◌∷◌, refl, codes, arith}
use Rattle.std.specs.Str.{IsAscii}
use Rattle.std.proofs.lemmas.Bool.Decides.{nat_tests}
use Rattle.std.proofs.lemmas.Str.{IsAscii-append}
use Rattle.std.proofs.lemmas.Str.Ascii.{IsAscii-nil, IsAscii-cons}
use Rattle.hex.specs.Hex.{encode_lower}
use Rattle.hprof_text.specs.Printed.{escaped_unit, is_plain, printed_unit}
use Rattle.hprof_text.proofs.Prints.{IsAscii-hex}
use Rattle.hprof_lines.specs.Printed.{printed_units}

plain_below : (unit : ℕ) → is_plain unit ≡ true → unit < 128
plain_below unit plain = grind (arith, nat_tests)

IsAscii-escape : IsAscii (codes "\\u")
IsAscii-escape = IsAscii-cons 92 (117 ∷ []) (omega arith) (IsAscii-cons 117 [] (omega arith) IsAscii-nil)

pub IsAscii-printed_unit : (unit : ℕ) → IsAscii (printed_unit unit)
unfolding printed_unit
IsAscii-printed_unit unit = by (is_plain unit) refl
  where
    by : (plain : Bool) → is_plain unit ≡ plain → IsAscii (cond plain (unit ∷ []) (escaped_unit unit))
    by true e = IsAscii-cons unit [] (plain_below unit e) IsAscii-nil
    by false e = IsAscii-append (codes "\\u") (encode_lower ((unit / 256) ∷ (unit % 256) ∷ [])) IsAscii-escape
        (IsAscii-hex ((unit / 256) ∷ (unit % 256) ∷ []))

pub IsAscii-printed_units : (units : List ℕ) → IsAscii (printed_units units)
IsAscii-printed_units [] = IsAscii-nil
IsAscii-printed_units (unit ∷ units) =
    IsAscii-append (printed_unit unit) (printed_units units) (IsAscii-printed_unit unit) (IsAscii-printed_units units)
