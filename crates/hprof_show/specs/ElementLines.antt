-- The elements of an array of objects, told for people.
use Rattle.std.specs.Prelude.{ℕ, ◌+◌, ◌-◌, ◌==◌, nat_le, List, [], ◌∷◌, ◌++◌, length, map, take, codes, if◌then◌else◌}
use Rattle.std.specs.Fmt.{decimal}
use Rattle.hprof_lines.specs.Line.{text_of_lines}
use Rattle.hprof_describe.specs.Findings.{Findings}
use Rattle.hprof_describe.specs.References.{reference_text}
use Rattle.hprof_show.specs.ClassLines.{equal_line}

-- an element and its place
pub record Element : Type 0 where
  pub place : ℕ
  pub id : ℕ

-- the elements from that place on that are not 0
unfoldable pub present_from : ℕ → List ℕ → List Element
present_from place [] = []
present_from place (id ∷ ids) =
    if id == 0 then present_from (place + 1) ids else (record { place = place; id = id }) ∷ present_from (place + 1) ids

abbrev pub element_line : Findings → Element → List ℕ
element_line found element = equal_line (codes "element " ++ decimal element.place) (reference_text found element.id)

-- the line of an element behind so many that were told, if it is told too
abbrev pub told_line : Findings → (told place id : ℕ) → List ℕ
told_line found told place id =
    if id == 0 then [] else if nat_le 100 told then [] else element_line found (record { place = place; id = id })

-- the lines of the first 100 elements that are not 0
abbrev pub present_text : Findings → List ℕ → List ℕ
present_text found elements = text_of_lines (map (element_line found) (take 100 (present_from 0 elements)))

-- behind two spaces, how many of so many are left out behind the first ones
abbrev pub more_line : (most count : ℕ) → List ℕ
more_line most count = if nat_le count most then [] else codes "  .. " ++ decimal (count - most) ++ codes " more\n"

-- behind two spaces, how many elements are 0
abbrev pub nulls_line : ℕ → List ℕ
nulls_line count = if count == 0 then [] else codes "  " ++ decimal count ++ codes " null\n"

-- the first 100 elements that are not 0, how many more there are, and how many are 0
unfoldable pub elements_text : Findings → List ℕ → List ℕ
elements_text found elements =
    present_text found elements ++ more_line 100 (length (present_from 0 elements))
    ++ nulls_line (length elements - length (present_from 0 elements))
