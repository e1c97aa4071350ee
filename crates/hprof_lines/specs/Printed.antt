-- Units of a text in print.
use Rattle.std.specs.Prelude.{ℕ, List}
use Rattle.std.specs.List.{flat_map}
use Rattle.hprof_text.specs.Printed.{printed_unit}

-- the units in print
abbrev pub printed_units : List ℕ → List ℕ
printed_units units = flat_map printed_unit units
