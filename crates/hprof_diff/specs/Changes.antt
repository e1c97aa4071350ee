-- Changes as they are kept, and the changes of some labels.
use Rattle.std.specs.Prelude.{ℕ, List, Bool, map, not, ◌==◌, ◌&&◌}
use Rattle.std.specs.List.{filter}
use Rattle.hprof_diff.specs.declared.change.Change.{Change}
use Rattle.hprof_diff.specs.declared.change.Delta.{Delta}
use Rattle.hprof_diff.specs.Counts.{Totals}
use Rattle.hprof_diff.specs.Difference.{ChangeValue, StepValue, change_of}

-- what a step says
abbrev pub step_value : Delta → StepValue
step_value step = record { old = step.old; new = step.new }

-- what a change says
abbrev pub change_value : Change → ChangeValue
change_value change = record { label = change.label.now; bytes = step_value change.bytes; count = step_value change.count }

-- whether the bytes or the number of objects differ
abbrev pub differs : ChangeValue → Bool
differs change = not (change.bytes.old == change.bytes.new && change.count.old == change.count.new)

-- the changes of these labels that differ
abbrev pub changes_among : (old new : Totals) → List (List ℕ) → List ChangeValue
changes_among old new labels = filter differs (map (change_of old new) labels)
