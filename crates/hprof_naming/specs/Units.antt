-- The bytes of an array of numbers, read as units of text.
use Rattle.std.specs.Prelude.{ℕ, ◌+◌, ◌*◌, List, [], ◌∷◌}
use Rattle.hprof_naming.specs.declared.text.Coding.{Coding}
use Rattle.hprof_naming.specs.declared.text.Coding.TheVariants as codings

-- two bytes a unit, the higher one first: the elements of a char array, heapDumper.cpp, HPROF_GC_PRIM_ARRAY_DUMP
abbrev pub high_first : List ℕ → List ℕ
high_first [] = []
high_first (byte ∷ []) = []
high_first (high ∷ low ∷ bytes) = (high * 256 + low) ∷ high_first bytes

-- two bytes a unit, the lower one first: a byte array that holds UTF-16. Which byte is first is this project's own choice, since a dump
-- does not say
abbrev pub low_first : List ℕ → List ℕ
low_first [] = []
low_first (byte ∷ []) = []
low_first (low ∷ high ∷ bytes) = (high * 256 + low) ∷ low_first bytes

-- the units of bytes that are coded so: in Latin-1 each byte is one
abbrev pub units_of : Coding → List ℕ → List ℕ
units_of codings.Chars bytes = high_first bytes
units_of codings.Latin1 bytes = bytes
units_of codings.Utf16 bytes = low_first bytes
