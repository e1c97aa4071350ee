-- What is left to write of what is held elsewhere.
use Rattle.std.proofs.Common.{◌≡◌, ℕ, List, [], ◌∷◌, ◌++◌, length, Option, Some, None, refl, ap, ◌∙◌}
use Rattle.hprof_threads.specs.declared.held.Held.{Held}
use Rattle.hprof_threads.specs.declared.held.Place.{Place}
use Rattle.hprof_describe.specs.Findings.{Findings}
use Rattle.hprof_holders.specs.PlaceLines.{new_place_line}
use Rattle.hprof_holders.specs.ThreadsText.{elsewhere_text, held_line, rows_behind}

-- behind something that is held at that place, or from the start
abbrev pub left_text : Findings → Option Place → List Held → List ℕ
left_text found (Some before) rows = rows_behind found before rows
left_text found None rows = elsewhere_text found rows

-- the line of a row, and then what is behind it
pub left_row : (found : Findings) (before : Option Place) (row : Held) (rows : List Held)
    → left_text found before (row ∷ rows)
    ≡ (new_place_line before row.place ++ held_line found row) ++ left_text found (Some row.place) rows
unfolding rows_behind
left_row found None row rows = refl
left_row found (Some before) row rows = refl

-- behind no rows there is nothing
nothing_left : (found : Findings) (before : Option Place) → length (left_text found before []) ≡ 0
unfolding rows_behind
nothing_left found None = refl
nothing_left found (Some before) = refl

pub none_left : (found : Findings) (before : Option Place) (rows : List Held) → rows ≡ [] → length (left_text found before rows) ≡ 0
none_left found before rows none = ap (λ (l : List Held). length (left_text found before l)) none ∙ nothing_left found before
