use Rattle.std.proofs.Common.{rules, of_calls, sym, ap, subst, ◌∙◌}
use Rattle.std.specs.List.{filter}
use Rattle.std.specs.List.Sorted.{IsPartitionedBy}
use Rattle.std.proofs.lemmas.Fn.{always_returns_same}
use Rattle.hprof_holders.specs.ThreadsText.{is_elsewhere, is_in_frame}
use Rattle.hprof_holders.proofs.Cuts.{filter_twice, front_passes}
use Rattle.hprof_holders.proofs.PlaceOrder.{past_earlier}
use Rattle.hprof_holders.proofs.RowCuts.{cut_frame}
use Rattle.hprof_holders.proofs.held_rows.rows_in_frame.Goals as goal

pub returns : goal.returns
returns c = λ facts serial held.
    let rows = c.args.rows.now in
    let number = c.args.number in
    let rest = c.rows_elsewhere-rest.result.now in
    let rest_is = c.rows_elsewhere-rest.ensures facts serial held in
    let cut = c.partition_point-count.ensures.partitioned (λ row. is_in_frame number row)
    (always_returns_same _ _ _ (λ a r f k. search (rules, of_calls)))
    (subst (IsPartitionedBy (is_in_frame number)) (sym rest_is) (cut_frame facts serial rows held number)) in
    c.split_at.ensures.front
    ∙ front_passes (is_in_frame number) rest c.partition_point-count.result c.partition_point-count.ensures.bound cut
    ∙ ap (filter (is_in_frame number)) rest_is ∙ filter_twice (is_elsewhere number) (is_in_frame number) (past_earlier number) rows
