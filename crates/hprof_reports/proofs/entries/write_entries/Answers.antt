use Rattle.std.proofs.Common.{◌+◌, length, ap, subst, arith}
use Rattle.std.proofs.lemmas.Result.{err_from_is_err_and}
use Rattle.hprof_devices.proofs.Writes.{Pushed-more}
use Rattle.hprof_heap.specs.HeapFacts.{size_of}
use Rattle.hprof_lines.specs.Line.{each_line, text_of_lines}
use Rattle.hprof_lines.specs.Stopping.{WritesText}
use Rattle.hprof_lines.proofs.TextWriting.{pushed_stops_within}
use Rattle.hprof_reports.proofs.entries.write_entries.Goals as goal

pub returns-in_err-write_line-clause-bytes : goal.returns-in_err-write_line-clause-bytes
returns-in_err-write_line-clause-bytes g c = λ naming all is same.
    let line_at = g.L.Item.Entry.line_at naming (size_of c.args.heap.now) in
    let line = line_at c.loop-place.place c.in-Some.entry in
    let r = c.from_residual.result in
    let p = err_from_is_err_and r c.from_residual.ensures.1 in
    subst (λ entries. WritesText (g.W.Target.written c.args.target.now) (g.W.Target.written c.write_line.new.target) r
    (text_of_lines (each_line line_at 0 entries))) same
    (pushed_stops_within r p.0 p.1 (g.W.Target.written c.args.target.now) (g.W.Target.written c.loop-place.target)
    (text_of_lines (each_line line_at 0 (g.L.Entries.left c.args.entries)))
    (text_of_lines (each_line line_at c.loop-place.place (g.L.Entries.left c.loop-place.entries))) (c.loop-place.invariant.pushed naming is)
    (g.W.Target.written c.write_line.new.target) line
    (text_of_lines (each_line line_at (c.loop-place.place + 1) (g.L.Entries.left c.next_entry.new.self)))
    (ap (λ entries. text_of_lines (each_line line_at c.loop-place.place entries)) c.in-Some.ensures)
    (c.in_err-write_line.ensures.bytes line (c.line.ensures naming is)))

pub loop-place-preserved : goal.loop-place-preserved
loop-place-preserved g c = record {
  counted = omega (arith, ap length c.in-Some.ensures, c.loop-place.invariant.counted);
  pushed = λ naming is.
      let line_at = g.L.Item.Entry.line_at naming (size_of c.args.heap.now) in
      let line = line_at c.loop-place.place c.in-Some.entry in
      Pushed-more (g.W.Target.written c.args.target.now) (g.W.Target.written c.loop-place.target)
      (g.W.Target.written c.write_line.new.target)
      (text_of_lines (each_line line_at 0 (g.L.Entries.left c.args.entries)))
      (text_of_lines (each_line line_at c.loop-place.place (g.L.Entries.left c.loop-place.entries))) line
      (text_of_lines (each_line line_at (c.loop-place.place + 1) (g.L.Entries.left c.next_entry.new.self)))
      (c.loop-place.invariant.pushed naming is)
      (ap (λ entries. text_of_lines (each_line line_at c.loop-place.place entries)) c.in-Some.ensures)
      (c.in_ok-write_line.ensures.bytes line (c.line.ensures naming is));
  well = c.in_ok-write_line.ensures.health;
}
