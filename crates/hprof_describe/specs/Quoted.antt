-- A text in quotes, this project's own.
use Rattle.std.specs.Prelude.{ℕ, ◌-◌, nat_le, List, [], ◌++◌, length, take, Option, Some, None, codes, if◌then◌else◌}
use Rattle.std.specs.Fmt.{decimal}
use Rattle.hprof_lines.specs.Printed.{printed_units}

-- how many units are left out of a text of so many: those behind the first 100
abbrev pub more_text : ℕ → List ℕ
more_text count = if nat_le count 100 then [] else codes " .. " ++ decimal (count - 100) ++ codes " more"

-- the first 100 units in print, in quotes, and how many more there are
unfoldable pub quoted : List ℕ → List ℕ
quoted units = codes "\"" ++ printed_units (take 100 units) ++ codes "\"" ++ more_text (length units)

-- a name or a text behind a label, if there is one
abbrev pub behind_label : Option (List ℕ) → List ℕ
behind_label (Some units) = codes " " ++ quoted units
behind_label None = []
