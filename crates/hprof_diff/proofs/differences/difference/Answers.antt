use Rattle.std.proofs.Common.{◌++◌, map, List, sym, ap, subst, ◌∙◌}
use Rattle.std.specs.List.{IsDistinct}
use Rattle.std.specs.List.Sorted.{IsPermutation}
use Rattle.hprof_diff.specs.declared.change.Change.{Change}
use Rattle.hprof_diff.specs.Changes.{change_value, changes_among}
use Rattle.hprof_diff.specs.Difference.{ChangeValue}
use Rattle.hprof_diff.specs.Kept.{labels_in, totals_in}
use Rattle.hprof_diff.specs.ChangeOrder.{same_label}
use Rattle.hprof_diff.specs.OneChanges.{among_apart, among_is_difference, both_distinct, both_labels, differ_in_both, gathered}
use Rattle.hprof_diff.proofs.differences.difference.Goals as goal

pub sort_changes-requires : goal.sort_changes-requires
sort_changes-requires c =
    let old = c.args.old.now in
    let new = c.args.new.now in
    let same = gathered old new (map change_value c.push_old.new.changes.items) (map change_value c.push_new.new.changes.items)
    (c.in_ok-push_old.ensures.changes
    ∙ ap (λ (l : List Change). map change_value l ++ changes_among (totals_in old) (totals_in new) (labels_in old))
    c.new-changes.ensures.items)
    c.in_ok-push_new.ensures.changes in
    subst (IsDistinct same_label) (sym same)
    (among_apart (totals_in old) (totals_in new) (both_labels old new)
    (both_distinct old new c.in_ok-push_old.ensures.apart c.in_ok-push_new.ensures.apart))

pub returns : goal.returns
returns c =
    let old = c.args.old.now in
    let new = c.args.new.now in
    let after = map change_value c.sort_changes.new.changes.items in
    let same = gathered old new (map change_value c.push_old.new.changes.items) (map change_value c.push_new.new.changes.items)
    (c.in_ok-push_old.ensures.changes
    ∙ ap (λ (l : List Change). map change_value l ++ changes_among (totals_in old) (totals_in new) (labels_in old))
    c.new-changes.ensures.items)
    c.in_ok-push_new.ensures.changes in
    among_is_difference (totals_in old) (totals_in new) (both_labels old new) after
    (subst (λ (before : List ChangeValue). IsPermutation before after) same c.sort_changes.ensures.same) c.sort_changes.ensures.ascend
    (differ_in_both old new)
