use Rattle.std.proofs.Common.{◌≡◌, ◌++◌, map, not, string_bytes}
use Rattle.std.specs.List.{filter}
use Rattle.hprof_diff.specs.Changes.{change_value, changes_among}
use Rattle.hprof_diff.specs.Kept.{has_label, labels_in, totals_in}
use Rattle.hprof_diff.proofs.differences.push_new.Given as goal

abbrev pub invariant-loop-label : goal.invariant-loop-label
invariant-loop-label l =
    map change_value l.changes.items
    ++ changes_among (totals_in l.old) (totals_in l.new) (filter (λ label. not (has_label l.old label)) (map string_bytes l.label-iterator))
    ≡ map change_value l.fn.changes.items
    ++ changes_among (totals_in l.old) (totals_in l.new) (filter (λ label. not (has_label l.old label)) (labels_in l.new))
