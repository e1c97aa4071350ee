-- Values as people read them: numbers in decimal, characters in print, floats as Java's `toHexString` prints them.
use Rattle.std.specs.Prelude.{ℕ, ◌==◌, ◌%◌, ◌^◌, List, ◌++◌, codes, if◌then◌else◌}
use Rattle.std.specs.Fmt.{decimal, signed_decimal}
use Rattle.std.specs.Int.{cast_signed, w8, w16, w32, w64}
use Rattle.hprof_text.specs.JavaFloats.{double_text, float_text}
use Rattle.hprof_text.specs.Printed.{printed_unit}
use Rattle.hprof_values.specs.declared.basic.Basic.{Basic}
use Rattle.hprof_values.specs.declared.basic.Basic.TheVariants as basics
use Rattle.hprof_describe.specs.Findings.{Findings}
use Rattle.hprof_describe.specs.References.{reference_text}

-- a boolean is a byte of any value: heapDumper.cpp, "HPROF binary format", the basic types
abbrev pub boolean_text : ℕ → List ℕ
boolean_text bits = if bits == 0 then codes "false" else if bits == 1 then codes "true" else decimal bits

abbrev pub char_text : ℕ → List ℕ
char_text bits = codes "'" ++ printed_unit (bits % 2 ^ 16) ++ codes "'"

-- a value of that type with these bits, of which a number has as many as its type
unfoldable pub value_text : Findings → Basic → ℕ → List ℕ
value_text found basics.Array bits = reference_text found bits
value_text found basics.Object bits = reference_text found bits
value_text found basics.Boolean bits = boolean_text bits
value_text found basics.Char bits = char_text bits
value_text found basics.Float bits = float_text (bits % 2 ^ 32)
value_text found basics.Double bits = double_text bits
value_text found basics.Byte bits = signed_decimal (cast_signed w8 (bits % 2 ^ 8))
value_text found basics.Short bits = signed_decimal (cast_signed w16 (bits % 2 ^ 16))
value_text found basics.Int bits = signed_decimal (cast_signed w32 (bits % 2 ^ 32))
value_text found basics.Long bits = signed_decimal (cast_signed w64 bits)
