use Rattle.std.proofs.Common.{◌++◌}
use Rattle.std.proofs.lemmas.Result.{err_from_is_err_and}
use Rattle.hprof_lines.proofs.TextWriting.{text_stops, text_then}
use Rattle.hprof_retained.specs.Tree.{total_of}
use Rattle.hprof_keeps.specs.Kept.{nodes_at}
use Rattle.hprof_keeps.specs.KeepsText.{child_lines, total_line, weakly_line}
use Rattle.hprof_keeps.specs.Order.{retained_in}
use Rattle.hprof_keeps.specs.WeakSum.{sum_of}
use Rattle.hprof_keeps.proofs.keeps.write_roots.Goals as goal

pub returns-in_err-write_line-clause-bytes : goal.returns-in_err-write_line-clause-bytes
returns-in_err-write_line-clause-bytes g c = λ found is.
    let retained = c.args.retained.now in
    let total = total_line (total_of retained) in
    let left = weakly_line (sum_of c.args.weakly.now)
    ++ child_lines found (retained_in retained) (nodes_at retained c.args.below.now) in
    let r = c.from_residual in
    let p = err_from_is_err_and r.result r.ensures.1 in
    text_stops r.result (g.W.Target.written c.args.target.now) (g.W.Target.written c.write_line.new.target) p.0 total left p.1
    (c.in_err-write_line.ensures.bytes total c.total_line.ensures)

pub returns-in_err-write_line-2-clause-bytes : goal.returns-in_err-write_line-2-clause-bytes
returns-in_err-write_line-2-clause-bytes g c = λ found is.
    let retained = c.args.retained.now in
    let total = total_line (total_of retained) in
    let line = weakly_line (sum_of c.args.weakly.now) in
    let below = child_lines found (retained_in retained) (nodes_at retained c.args.below.now) in
    let r = c.from_residual-in_err-write_line-2 in
    let p = err_from_is_err_and r.result r.ensures.1 in
    let old = g.W.Target.written c.args.target.now in
    let mid = g.W.Target.written c.write_line.new.target in
    let new = g.W.Target.written c.write_line-2.new.target in
    text_then r.result old mid new total (line ++ below) (c.in_ok-write_line.ensures.bytes total c.total_line.ensures)
    (text_stops r.result mid new p.0 line below p.1 (c.in_err-write_line-2.ensures.bytes line c.weakly_line.ensures))

pub returns-clause-bytes : goal.returns-clause-bytes
returns-clause-bytes g c = λ found is.
    let retained = c.args.retained.now in
    let total = total_line (total_of retained) in
    let line = weakly_line (sum_of c.args.weakly.now) in
    let below = child_lines found (retained_in retained) (nodes_at retained c.args.below.now) in
    let r = c.write_nodes.result in
    let old = g.W.Target.written c.args.target.now in
    let mid = g.W.Target.written c.write_line.new.target in
    let after = g.W.Target.written c.write_line-2.new.target in
    let new = g.W.Target.written c.write_nodes.new.target in
    text_then r old mid new total (line ++ below) (c.in_ok-write_line.ensures.bytes total c.total_line.ensures)
    (text_then r mid after new line below (c.in_ok-write_line-2.ensures.bytes line c.weakly_line.ensures)
    (c.write_nodes.ensures.bytes found is))
