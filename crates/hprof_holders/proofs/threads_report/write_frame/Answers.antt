use Rattle.std.proofs.Common.{List, ◌++◌, codes, subst}
use Rattle.std.specs.List.{filter, flat_map}
use Rattle.std.proofs.lemmas.Result.{err_from_is_err_and}
use Rattle.hprof_heap.specs.HeapFacts.{facts_of}
use Rattle.hprof_threads.specs.declared.held.Held.{Held}
use Rattle.hprof_lines.specs.Stopping.{WritesText}
use Rattle.hprof_lines.proofs.TextWriting.{text_stops, text_then}
use Rattle.hprof_holders.specs.ThreadsText.{held_line, is_in_frame}
use Rattle.hprof_holders.proofs.threads_report.write_frame.Goals as goal

pub returns-in_err-write_line-clause-bytes : goal.returns-in_err-write_line-clause-bytes
returns-in_err-write_line-clause-bytes g c = λ found threads serial are are_threads held.
    let r = c.from_residual in
    let p = err_from_is_err_and r.result r.ensures.1 in
    let line = codes "  at " ++ threads.frame_line c.args.frame ++ codes "\n" in
    text_stops r.result (g.W.Target.written c.args.target.now) (g.W.Target.written c.write_line.new.target) p.0 line
    (flat_map (held_line found) (filter (is_in_frame c.args.number) c.args.rows.now)) p.1
    (c.in_err-write_line.ensures.bytes line (c.at_line.ensures found threads are are_threads))

pub returns-clause-bytes : goal.returns-clause-bytes
returns-clause-bytes g c = λ found threads serial are are_threads held.
    let line = codes "  at " ++ threads.frame_line c.args.frame ++ codes "\n" in
    let mid = g.W.Target.written c.write_line.new.target in
    let new = g.W.Target.written c.write_held.new.target in
    text_then c.write_held.result (g.W.Target.written c.args.target.now) mid new line
    (flat_map (held_line found) (filter (is_in_frame c.args.number) c.args.rows.now))
    (c.in_ok-write_line.ensures.bytes line (c.at_line.ensures found threads are are_threads))
    (subst (λ (rows : List Held). WritesText mid new c.write_held.result (flat_map (held_line found) rows))
    (c.rows_in_frame.ensures (facts_of c.args.heap.now) serial held) (c.write_held.ensures.bytes found are))
