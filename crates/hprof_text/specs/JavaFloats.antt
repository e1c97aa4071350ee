-- Floats and doubles as text, as Java's `Float.toHexString` and `Double.toHexString` print them.
use Rattle.std.specs.Prelude.{ℕ, ◌+◌, ◌-◌, ◌*◌, ◌/◌, ◌%◌, ◌^◌, max, ◌==◌, ◌&&◌, not, if◌then◌else◌, Bool, false, ◌≡◌}
use Rattle.std.specs.Prelude.{List, [], ◌∷◌, ◌++◌, codes}
use Rattle.std.specs.Prelude.{ℤ, pos, ◌-ℤ◌}
use Rattle.std.specs.Fmt.{sign_text, signed_decimal}
use Rattle.std.specs.Int.{w64, to_be_bytes}
use Rattle.std.specs.List.{list_all}
use Rattle.hex.specs.Hex.{encode_lower}
use Rattle.hprof_text.specs.declared.java_floats.FloatFormat.{FloatFormat}
use Rattle.hprof_text.specs.declared.java_floats.FloatFormat.TheVariants.{Float, Double}
use Rattle.hprof_text.specs.declared.java_floats.FloatFields.{FloatFields}

-- ---- the fields of a number, as IEEE 754 has them

-- How many bits the fraction has. They are the last ones.
abbrev pub fraction_bits : FloatFormat → ℕ
fraction_bits Float = 23
fraction_bits Double = 52

-- How many bits the exponent has. They stand before the fraction, and the bit of the sign before them.
abbrev pub exponent_bits : FloatFormat → ℕ
exponent_bits Float = 8
exponent_bits Double = 11

-- The exponent of the number 1.
abbrev pub bias : FloatFormat → ℕ
bias Float = 127
bias Double = 1023

-- The exponent of infinity and of what is no number.
abbrev pub greatest_exponent : FloatFormat → ℕ
greatest_exponent format = 2 ^ exponent_bits format - 1

-- The fields of the bits. Zeros behind the fraction make 64 bits of it.
abbrev pub fields_of : FloatFormat → ℕ → FloatFields
fields_of format bits = record {
  is_negative = bits / 2 ^ (exponent_bits format + fraction_bits format) == 1;
  exponent = bits / 2 ^ fraction_bits format % 2 ^ exponent_bits format;
  fraction = bits % 2 ^ fraction_bits format * 2 ^ (64 - fraction_bits format);
}

-- Whether the fields are of no number.
abbrev pub is_nan : FloatFormat → FloatFields → Bool
is_nan format fields = fields.exponent == greatest_exponent format && not (fields.fraction == 0)

-- The bits are of a number. Infinity is one.
abbrev pub IsNumber : FloatFormat → ℕ → Type 0
IsNumber format bits = is_nan format (fields_of format bits) ≡ false

-- ---- their text

-- The digits without the zeros at the end. The digit `0` is the byte 48.
abbrev pub without_last_zeros : List ℕ → List ℕ
without_last_zeros [] = []
without_last_zeros (digit ∷ others) =
    if list_all (λ d. d == 48) (digit ∷ others) then [] else digit ∷ without_last_zeros others

-- The digits, and `0` where there are none.
abbrev pub one_at_least : List ℕ → List ℕ
one_at_least [] = codes "0"
one_at_least (digit ∷ others) = digit ∷ others

-- The fraction in print: its hexadecimal digits without the zeros at the end, but one at least. So a float shows at most six digits, its 23
-- bits and a 0 behind them, and a double at most thirteen.
unfoldable pub fraction_text : ℕ → List ℕ
fraction_text fraction = one_at_least (without_last_zeros (encode_lower (to_be_bytes w64 fraction)))

-- What stands before the fraction. Zero and the subnormal numbers, whose exponent is 0, have a 0 before the point.
abbrev pub lead_text : FloatFields → List ℕ
lead_text fields = if fields.exponent == 0 then codes "0x0." else codes "0x1."

-- The power of two. The subnormal numbers have that of exponent 1, and zero is shown with 0.
abbrev pub power_of : FloatFormat → FloatFields → ℤ
power_of format fields =
    if fields.exponent == 0 && fields.fraction == 0 then pos 0
    else pos (max 1 fields.exponent) -ℤ pos (bias format)

-- A finite number in print, without its sign.
unfoldable pub finite_text : FloatFormat → FloatFields → List ℕ
finite_text format fields =
    lead_text fields ++ fraction_text fields.fraction ++ codes "p" ++ signed_decimal (power_of format fields)

-- The fields in print. What is no number is shown without its sign.
unfoldable pub fields_text : FloatFormat → FloatFields → List ℕ
fields_text format fields =
    if is_nan format fields then codes "NaN"
    else sign_text fields.is_negative
    ++ (if fields.exponent == greatest_exponent format then codes "Infinity" else finite_text format fields)

-- The bits of a float in print.
abbrev pub float_text : ℕ → List ℕ
float_text bits = fields_text Float (fields_of Float bits)

-- The bits of a double in print.
abbrev pub double_text : ℕ → List ℕ
double_text bits = fields_text Double (fields_of Double bits)
