use Rattle.std.proofs.Common.{of_calls, rules}
use Rattle.std.specs.Ordering.{is_lt}
use Rattle.std.proofs.lemmas.Fn.{always_returns_same}
use Rattle.std.proofs.lemmas.List.Sorted.{ranks_by}
use Rattle.hprof_suspects.specs.LabelSums.{line_cmp}
use Rattle.hprof_suspects.specs.declared.piece_lines.PieceLine.{PieceLine}
use Rattle.hprof_suspects.proofs.PieceOrder.{lines_total}
use Rattle.hprof_suspects.proofs.piece_lines.sort_lines.Goals as goal

pub returns-clause-sorted : goal.returns-clause-sorted
returns-clause-sorted c =
    let labels = c.args.labels.now in
    c.sort_unstable_by.ensures.sorted (λ (one other : PieceLine). is_lt (line_cmp labels one other))
    (ranks_by (lines_total labels) (λ (line : PieceLine). line)) (always_returns_same _ _ _ (λ a r f k. search (rules, of_calls)))
