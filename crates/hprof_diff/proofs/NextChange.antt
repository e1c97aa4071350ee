-- The line of the next change.
use Rattle.std.proofs.Common.{◌≡◌, ◌+◌, ◌<◌, ℕ, List, [], ◌++◌, length, map, drop, get_or, ap}
use Rattle.hprof_rows.proofs.Tables.{drop_from}
use Rattle.hprof_diff.specs.declared.change.Change.{Change}
use Rattle.hprof_diff.specs.Changes.{change_value}
use Rattle.hprof_diff.specs.DifferenceText.{change_line, changes_text}

-- stands at each place that has no change
abbrev pub no_change : Change
no_change = record {
  label = record { ref_ptr = (0, 0); now = [] };
  bytes = record { old = 0; new = 0 };
  count = record { old = 0; new = 0 };
}

-- the text of what is left begins with the line of the next
pub next_change : (all : List Change) (place : ℕ) → place < length all → changes_text (map change_value (drop place all))
    ≡ change_line (change_value (get_or all place no_change)) ++ changes_text (map change_value (drop (place + 1) all))
next_change all place within = ap (λ (l : List Change). changes_text (map change_value l)) (drop_from all place no_change within)
