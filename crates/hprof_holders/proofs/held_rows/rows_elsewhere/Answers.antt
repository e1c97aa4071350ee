use Rattle.std.proofs.Common.{not, rules, of_calls, ◌∙◌}
use Rattle.std.proofs.lemmas.Fn.{always_returns_same}
use Rattle.hprof_holders.specs.ThreadsText.{is_elsewhere}
use Rattle.hprof_holders.proofs.Cuts.{back_passes}
use Rattle.hprof_holders.proofs.RowCuts.{cut_elsewhere}
use Rattle.hprof_holders.proofs.held_rows.rows_elsewhere.Goals as goal

pub returns : goal.returns
returns c = λ facts serial held.
    let rows = c.args.rows.now in
    let count = c.args.count in
    let cut = c.partition_point-start.ensures.partitioned (λ row. not (is_elsewhere count row))
    (always_returns_same _ _ _ (λ a r f k. search (rules, of_calls))) (cut_elsewhere facts serial rows held count) in
    c.split_at.ensures.back ∙ back_passes (is_elsewhere count) rows c.partition_point-start.result c.partition_point-start.ensures.bound cut
