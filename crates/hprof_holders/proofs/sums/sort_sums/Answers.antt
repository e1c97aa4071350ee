use Rattle.std.proofs.Common.{map, rules}
use Rattle.std.specs.Ordering.{is_lt}
use Rattle.std.proofs.lemmas.List.Sorted.{IsPermutation-map, answers_always, ranks_by}
use Rattle.std.proofs.lemmas.Map.Keys.{IsDistinct-IsPermutation}
use Rattle.hprof_holders.specs.declared.sums.Sum.{Sum}
use Rattle.hprof_holders.specs.SumCounts.{sum_value}
use Rattle.hprof_holders.specs.Sums.{SumValue, sum_cmp}
use Rattle.hprof_histogram.proofs.Ordered.{sorted_map}
use Rattle.hprof_holders.proofs.SumOrder.{same_text, same_text_flips, sum_cmp_total, sums_ascend}
use Rattle.hprof_holders.proofs.sums.sort_sums.Goals as goal

pub returns-clause-ascend : goal.returns-clause-ascend
returns-clause-ascend c =
    let before = c.args.sums.now.items in
    let after = c.sort_unstable_by.new.self.items in
    sums_ascend (map sum_value after)
    (sorted_map sum_value (λ (sum other : SumValue). is_lt (sum_cmp sum other)) after
    (c.sort_unstable_by.ensures.sorted (λ (sum other : Sum). is_lt (sum_cmp (sum_value sum) (sum_value other)))
    (ranks_by sum_cmp_total sum_value) (answers_always _ _ _ (λ f a r g k. search rules))))
    (IsDistinct-IsPermutation same_text same_text_flips (map sum_value before) (map sum_value after)
    (IsPermutation-map sum_value before after c.sort_unstable_by.ensures.permutation) c.requires)

pub returns-clause-same : goal.returns-clause-same
returns-clause-same c =
    IsPermutation-map sum_value c.args.sums.now.items c.sort_unstable_by.new.self.items c.sort_unstable_by.ensures.permutation
