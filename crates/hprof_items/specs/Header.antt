-- The header: heapDumper.cpp, "HPROF binary format", its first lines.
use Rattle.std.specs.Prelude.{ℕ, ◌<◌, ◌^◌, List, [], ◌∷◌, ◌++◌, codes}
use Rattle.byteorder.specs.Endian.{big_bytes}
use Rattle.hprof_items.specs.declared.header.Header.{Header}
use Rattle.hprof_items.specs.declared.header.Version.{Version}
use Rattle.hprof_items.specs.declared.header.Version.TheVariants.{V101, V102}
use Rattle.hprof_values.specs.Ids.{width_of}

-- the text in front, with the zero byte that ends it
abbrev pub text_of : Version → List ℕ
text_of V101 = codes "JAVA PROFILE 1.0.1" ++ 0 ∷ []
text_of V102 = codes "JAVA PROFILE 1.0.2" ++ 0 ∷ []

-- the text, u4 size of identifiers, u4 high word and u4 low word of the milliseconds
abbrev pub header_bytes : Header → List ℕ
header_bytes header = text_of header.version ++ (big_bytes 4 (width_of header.ids) ++ big_bytes 8 header.millis)

-- a time that has a header
abbrev pub IsMillis : ℕ → Type 0
IsMillis millis = millis < 256 ^ 8
