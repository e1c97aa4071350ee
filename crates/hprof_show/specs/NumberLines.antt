-- The elements of an array of numbers, truth values or characters, told for people: heapDumper.cpp, HPROF_GC_PRIM_ARRAY_DUMP.
use Rattle.std.specs.Prelude.{ℕ, ◌+◌, ◌-◌, ◌*◌, ◌/◌, min, List, [], ◌∷◌, ◌++◌, length, drop, codes}
use Rattle.std.specs.Fmt.{decimal}
use Rattle.std.specs.List.{flat_map, range_with_len}
use Rattle.byteorder.specs.Endian.{big_number}
use Rattle.hprof_values.specs.declared.basic.Basic.{Basic}
use Rattle.hprof_values.specs.declared.basic.Basic.TheVariants as basics
use Rattle.hprof_values.specs.Basic.{width_of_basic}
use Rattle.hprof_naming.specs.declared.text.Coding.TheVariants as codings
use Rattle.hprof_naming.specs.Units.{units_of}
use Rattle.hprof_describe.specs.Findings.{Findings}
use Rattle.hprof_describe.specs.Quoted.{quoted}
use Rattle.hprof_describe.specs.Values.{value_text}
use Rattle.hprof_show.specs.ElementLines.{more_line}

-- the number of elements in the bytes of an array
abbrev pub count_of : Findings → Basic → List ℕ → ℕ
count_of found elem bytes = length bytes / width_of_basic found.ids elem

-- the element at that place, behind a space
abbrev pub number_text : Findings → Basic → List ℕ → ℕ → List ℕ
number_text found elem bytes place =
    codes " " ++ value_text found elem (big_number (width_of_basic found.ids elem) (drop (place * width_of_basic found.ids elem) bytes))

-- a line of at most 16 elements from that place on, of which there are so many
abbrev pub row_line : Findings → Basic → List ℕ → (count place : ℕ) → List ℕ
row_line found elem bytes count place = codes "  " ++ decimal place ++ codes " ="
    ++ flat_map (number_text found elem bytes) (range_with_len place (min 16 (count - place))) ++ codes "\n"

-- so many elements, 16 a line
abbrev pub rows_text : Findings → Basic → List ℕ → ℕ → List ℕ
rows_text found elem bytes count =
    flat_map (λ row. row_line found elem bytes count (row * 16)) (range_with_len 0 ((count + 15) / 16))

-- the first 256 elements, and how many more there are
unfoldable pub numbers_text : Findings → Basic → List ℕ → List ℕ
numbers_text found elem bytes =
    rows_text found elem bytes (min 256 (count_of found elem bytes)) ++ more_line 256 (count_of found elem bytes)

-- the units of a text in quotes, if there are any
abbrev pub quoted_line : List ℕ → List ℕ
quoted_line [] = []
quoted_line (unit ∷ units) = codes "  text " ++ quoted (unit ∷ units) ++ codes "\n"

-- characters are a text, bytes both a text and numbers, and others are numbers
abbrev pub values_text : Findings → Basic → List ℕ → List ℕ
values_text found basics.Char bytes = quoted_line (units_of codings.Chars bytes)
values_text found basics.Byte bytes = quoted_line (units_of codings.Latin1 bytes) ++ numbers_text found basics.Byte bytes
values_text found elem bytes = numbers_text found elem bytes
