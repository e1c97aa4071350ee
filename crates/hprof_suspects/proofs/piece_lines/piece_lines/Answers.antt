use Rattle.hprof_suspects.proofs.PieceOrder.{are_piece_sums}
use Rattle.hprof_suspects.proofs.piece_lines.piece_lines.Goals as goal

pub returns : goal.returns
returns c = λ ids facts agree tree labelled heads parts.
    are_piece_sums ids facts agree c.args.retained.now tree
    c.args.labels.now labelled c.args.part c.in_ok-sums.sums.bytes.items c.in_ok-sums.sums.counts.items
    (c.in_ok-sums.ensures.sums ids facts agree tree labelled heads parts)
    c.args.pieces c.in_ok-lines.lines.items c.sort_lines.new.lines.items c.in_ok-lines.ensures c.sort_lines.ensures.same
    c.sort_lines.ensures.sorted
