use Rattle.std.proofs.Common.{◌+◌, drop, get_or}
use Rattle.std.proofs.lemmas.Result.{err_from_is_err_and}
use Rattle.hprof_devices.proofs.Writes.{Pushed-more}
use Rattle.hprof_lines.proofs.TextWriting.{pushed_stops_within}
use Rattle.hprof_by_label.specs.RetainedText.{row_line}
use Rattle.hprof_by_label.specs.RowValues.{row_value}
use Rattle.hprof_by_label.proofs.RowLines.{lines_of, next_line, no_row}
use Rattle.hprof_by_label.proofs.report.write_rows.Goals as goal

pub returns-in_err-write_line-clause-bytes : goal.returns-in_err-write_line-clause-bytes
returns-in_err-write_line-clause-bytes g c =
    let rows = c.args.rows.now in
    let index = c.loop-row.row-index in
    let line = row_line (row_value (get_or rows index no_row)) in
    let r = c.from_residual in
    let p = err_from_is_err_and r.result r.ensures.1 in
    pushed_stops_within r.result p.0 p.1 (g.W.Target.written c.args.target.now) (g.W.Target.written c.loop-row.target)
    (lines_of rows) (lines_of (drop index rows)) c.loop-row.invariant.pushed
    (g.W.Target.written c.write_line.new.target) line (lines_of (drop (index + 1) rows))
    (next_line rows index c.loop-row-test.true)
    (c.in_err-write_line.ensures.bytes line c.row_line.ensures)

pub loop-row-preserved : goal.loop-row-preserved
loop-row-preserved g c = record {
  pushed =
      let rows = c.args.rows.now in
      let index = c.loop-row.row-index in
      let line = row_line (row_value (get_or rows index no_row)) in
      Pushed-more (g.W.Target.written c.args.target.now) (g.W.Target.written c.loop-row.target)
      (g.W.Target.written c.write_line.new.target) (lines_of rows) (lines_of (drop index rows)) line (lines_of (drop (index + 1) rows))
      c.loop-row.invariant.pushed (next_line rows index c.loop-row-test.true)
      (c.in_ok-write_line.ensures.bytes line c.row_line.ensures);
  well = c.in_ok-write_line.ensures.health;
}
