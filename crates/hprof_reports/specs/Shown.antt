-- Bits, as reports print them.
use Rattle.std.specs.Prelude.{ℕ, List}
use Rattle.byteorder.specs.Endian.{big_bytes}
use Rattle.hex.specs.Hex.{encode_lower}
use Rattle.hprof_values.specs.declared.ids.IdSize.{IdSize}
use Rattle.hprof_values.specs.declared.basic.Basic.{Basic}
use Rattle.hprof_values.specs.Basic.{width_of_basic}

-- the bits of a value: hexadecimal digits, two for each byte of its width
abbrev pub bits_text : IdSize → Basic → ℕ → List ℕ
bits_text ids basic bits = encode_lower (big_bytes (width_of_basic ids basic) bits)
