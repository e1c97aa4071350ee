-- What rows of numbers say beside their keys.
use Rattle.std.specs.Prelude.{ℕ, ℤ, pos, negsuc, List, [], ◌∷◌}
use Rattle.hprof_rows.specs.declared.number_rows.LoadRow.{LoadRow}
use Rattle.hprof_rows.specs.declared.number_rows.FrameRow.{FrameRow}
use Rattle.hprof_rows.specs.declared.number_rows.StartRow.{StartRow}

abbrev pub load_numbers : LoadRow → List ℕ
load_numbers row = row.class ∷ row.trace ∷ row.name ∷ []

-- a line: whether it is below zero, and how far from there
abbrev pub line_numbers : ℤ → List ℕ
line_numbers (pos n) = 0 ∷ n ∷ []
line_numbers (negsuc n) = 1 ∷ n ∷ []

abbrev pub frame_numbers : FrameRow → List ℕ
frame_numbers row = row.method ∷ row.signature ∷ row.source ∷ row.class_serial ∷ line_numbers row.line

abbrev pub start_numbers : StartRow → List ℕ
start_numbers row = row.object ∷ row.trace ∷ row.name ∷ row.group ∷ row.parent_group ∷ []
