use Rattle.std.proofs.Common.{◌++◌}
use Rattle.std.proofs.lemmas.Result.{err_from_is_err_and}
use Rattle.hprof_lines.proofs.TextWriting.{text_stops, text_then}
use Rattle.hprof_retained.specs.Tree.{total_of}
use Rattle.hprof_keeps.specs.Kept.{nodes_at}
use Rattle.hprof_keeps.specs.KeepsText.{above_lines, child_lines, total_line}
use Rattle.hprof_keeps.specs.Order.{retained_in}
use Rattle.hprof_keeps.proofs.keeps.write_held.Goals as goal

pub returns-in_err-write_line-clause-bytes : goal.returns-in_err-write_line-clause-bytes
returns-in_err-write_line-clause-bytes g c = λ found is.
    let retained = c.args.retained.now in
    let total = total_line (total_of retained) in
    let left = above_lines found (retained_in retained) (nodes_at retained c.args.above.now)
    ++ child_lines found (retained_in retained) (nodes_at retained c.args.below.now) in
    let r = c.from_residual in
    let p = err_from_is_err_and r.result r.ensures.1 in
    text_stops r.result (g.W.Target.written c.args.target.now) (g.W.Target.written c.write_line.new.target) p.0 total left p.1
    (c.in_err-write_line.ensures.bytes total c.total_line.ensures)

pub returns-in_err-write_nodes-clause-bytes : goal.returns-in_err-write_nodes-clause-bytes
returns-in_err-write_nodes-clause-bytes g c = λ found is.
    let retained = c.args.retained.now in
    let total = total_line (total_of retained) in
    let above = above_lines found (retained_in retained) (nodes_at retained c.args.above.now) in
    let below = child_lines found (retained_in retained) (nodes_at retained c.args.below.now) in
    let r = c.from_residual-in_err-write_nodes in
    let p = err_from_is_err_and r.result r.ensures.1 in
    let old = g.W.Target.written c.args.target.now in
    let mid = g.W.Target.written c.write_line.new.target in
    let new = g.W.Target.written c.write_nodes.new.target in
    text_then r.result old mid new total (above ++ below) (c.in_ok-write_line.ensures.bytes total c.total_line.ensures)
    (text_stops r.result mid new p.0 above below p.1 (c.in_err-write_nodes.ensures.bytes found is))

pub returns-clause-bytes : goal.returns-clause-bytes
returns-clause-bytes g c = λ found is.
    let retained = c.args.retained.now in
    let total = total_line (total_of retained) in
    let above = above_lines found (retained_in retained) (nodes_at retained c.args.above.now) in
    let below = child_lines found (retained_in retained) (nodes_at retained c.args.below.now) in
    let r = c.write_nodes-2.result in
    let old = g.W.Target.written c.args.target.now in
    let mid = g.W.Target.written c.write_line.new.target in
    let after = g.W.Target.written c.write_nodes.new.target in
    let new = g.W.Target.written c.write_nodes-2.new.target in
    text_then r old mid new total (above ++ below) (c.in_ok-write_line.ensures.bytes total c.total_line.ensures)
    (text_then r mid after new above below (c.in_ok-write_nodes.ensures.bytes found is) (c.write_nodes-2.ensures.bytes found is))
