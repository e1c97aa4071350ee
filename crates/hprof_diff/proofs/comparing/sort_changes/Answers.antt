use Rattle.std.proofs.Common.{map, rules}
use Rattle.std.specs.Ordering.{is_lt}
use Rattle.std.proofs.lemmas.List.Sorted.{IsPermutation-map, answers_always, ranks_by}
use Rattle.std.proofs.lemmas.Map.Keys.{IsDistinct-IsPermutation}
use Rattle.hprof_diff.specs.declared.change.Change.{Change}
use Rattle.hprof_diff.specs.Changes.{change_value}
use Rattle.hprof_diff.specs.Difference.{ChangeValue, change_cmp}
use Rattle.hprof_histogram.proofs.Ordered.{sorted_map}
use Rattle.hprof_diff.specs.ChangeOrder.{change_cmp_total, changes_ascend, same_label, same_label_flips}
use Rattle.hprof_diff.proofs.comparing.sort_changes.Goals as goal

pub returns-clause-ascend : goal.returns-clause-ascend
returns-clause-ascend c =
    let before = c.args.changes.now.items in
    let after = c.sort_unstable_by.new.self.items in
    changes_ascend (map change_value after)
    (sorted_map change_value (λ (change other : ChangeValue). is_lt (change_cmp change other)) after
    (c.sort_unstable_by.ensures.sorted (λ (change other : Change). is_lt (change_cmp (change_value change) (change_value other)))
    (ranks_by change_cmp_total change_value) (answers_always _ _ _ (λ f a r g k. search rules))))
    (IsDistinct-IsPermutation same_label same_label_flips (map change_value before) (map change_value after)
    (IsPermutation-map change_value before after c.sort_unstable_by.ensures.permutation) c.requires)

pub returns-clause-same : goal.returns-clause-same
returns-clause-same c =
    IsPermutation-map change_value c.args.changes.now.items c.sort_unstable_by.new.self.items c.sort_unstable_by.ensures.permutation
