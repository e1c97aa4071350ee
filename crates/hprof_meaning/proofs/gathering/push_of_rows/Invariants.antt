use Rattle.std.proofs.Common.{◌≡◌, ◌++◌, length}
use Rattle.std.specs.List.{flat_map}
use Rattle.hprof_meaning.specs.Stated.{class_of_row}
use Rattle.hprof_meaning.proofs.gathering.push_of_rows.Given as goal

-- what was appended, and what the rows that are left give
abbrev pub invariant-loop-row : goal.invariant-loop-row
invariant-loop-row l = l.classes.items ++ flat_map class_of_row l.rest ≡ l.fn.classes.items ++ flat_map class_of_row l.rows

abbrev pub decreases-loop-row : goal.decreases-loop-row
decreases-loop-row l = length l.rest
