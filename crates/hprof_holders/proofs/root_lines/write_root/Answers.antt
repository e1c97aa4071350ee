use Rattle.std.proofs.Common.{sym, subst}
use Rattle.std.proofs.lemmas.Result.{err_from_is_err_and}
use Rattle.hprof_threads.specs.Serials.{thread_of_root}
use Rattle.hprof_lines.specs.Stopping.{WritesText}
use Rattle.hprof_lines.proofs.TextWriting.{text_stops, text_then}
use Rattle.hprof_holders.specs.RootLines.{root_line}
use Rattle.hprof_holders.specs.RootsText.{thread_line}
use Rattle.hprof_holders.proofs.RootParts.{root_parts}
use Rattle.hprof_holders.proofs.root_lines.write_root.Goals as goal

pub returns-in_err-write_line-clause-bytes : goal.returns-in_err-write_line-clause-bytes
returns-in_err-write_line-clause-bytes g c = λ found threads are are_threads.
    let r = c.from_residual in
    let p = err_from_is_err_and r.result r.ensures.1 in
    let root = c.args.root in
    let old = g.W.Target.written c.args.target.now in
    let new = g.W.Target.written c.write_line.new.target in
    subst (WritesText old new r.result) (sym (root_parts found threads root))
    (text_stops r.result old new p.0 (root_line root) (thread_line found threads root (thread_of_root root)) p.1
    (c.in_err-write_line.ensures.bytes (root_line root) c.root_line.ensures))

pub returns-clause-bytes : goal.returns-clause-bytes
returns-clause-bytes g c = λ found threads are are_threads.
    let root = c.args.root in
    let below = thread_line found threads root (thread_of_root root) in
    let r = c.write_line-2 in
    let old = g.W.Target.written c.args.target.now in
    let mid = g.W.Target.written c.write_line.new.target in
    let new = g.W.Target.written r.new.target in
    subst (WritesText old new r.result) (sym (root_parts found threads root))
    (text_then r.result old mid new (root_line root) below
    (c.in_ok-write_line.ensures.bytes (root_line root) c.root_line.ensures)
    (r.ensures.bytes below (c.thread_line.ensures found threads are are_threads)))
