-- Numbers that stand in fields: how wide each is, and what it is.
use Rattle.std.specs.Prelude.{ℕ, List, map}
use Rattle.hprof_values.specs.declared.ids.IdSize.{IdSize}
use Rattle.hprof_values.specs.declared.number_writing.Number.{Number}
use Rattle.hprof_values.specs.declared.number_writing.Number.TheVariants as numbers
use Rattle.hprof_values.specs.Ids.{width_of}

-- how many bytes the number has
abbrev pub width_of_number : IdSize → Number → ℕ
width_of_number ids (numbers.Id id) = width_of ids
width_of_number ids (numbers.Four number) = 4
width_of_number ids (numbers.Two number) = 2
width_of_number ids (numbers.One number) = 1

abbrev pub number_value : Number → ℕ
number_value (numbers.Id id) = id
number_value (numbers.Four number) = number
number_value (numbers.Two number) = number
number_value (numbers.One number) = number

-- the widths of the fields in which they stand, and the numbers in these fields
abbrev pub number_widths : IdSize → List Number → List ℕ
number_widths ids list = map (width_of_number ids) list

abbrev pub number_values : List Number → List ℕ
number_values list = map number_value list
