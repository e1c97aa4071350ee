use Rattle.std.proofs.Common.{ap}
use Rattle.std.proofs.lemmas.Result.{err_from_is_err_and}
use Rattle.hprof_devices.proofs.Writes.{Pushed-more}
use Rattle.hprof_reports.specs.HistogramText.{row_line, rows_text}
use Rattle.hprof_lines.proofs.TextWriting.{pushed_stops_within}
use Rattle.hprof_reports.proofs.histogram_report.write_rows.Goals as goal

pub returns-in_err-write_line-clause-bytes : goal.returns-in_err-write_line-clause-bytes
returns-in_err-write_line-clause-bytes g c = λ naming is.
    let p = err_from_is_err_and c.from_residual.result c.from_residual.ensures.1 in
    let row = c.in-Some.row.now in
    let after = c.in-Some.after.now in
    pushed_stops_within c.from_residual.result p.0 p.1 (g.W.Target.written c.args.target.now) (g.W.Target.written c.loop-row.target)
    (rows_text naming c.args.rows.now)
    (rows_text naming c.loop-row.rest.now) (c.loop-row.invariant.pushed naming is) (g.W.Target.written c.write_line.new.target)
    (row_line naming row)
    (rows_text naming after) (ap (rows_text naming) c.in-Some.ensures.cases.0)
    (c.in_err-write_line.ensures.bytes (row_line naming row) (c.row_line.ensures naming is))

pub loop-row-preserved : goal.loop-row-preserved
loop-row-preserved g c = record {
  pushed = λ naming is.
      let row = c.in-Some.row.now in
      let after = c.in-Some.after.now in
      Pushed-more (g.W.Target.written c.args.target.now) (g.W.Target.written c.loop-row.target)
      (g.W.Target.written c.write_line.new.target) (rows_text naming c.args.rows.now)
      (rows_text naming c.loop-row.rest.now) (row_line naming row) (rows_text naming after) (c.loop-row.invariant.pushed naming is)
      (ap (rows_text naming) c.in-Some.ensures.cases.0)
      (c.in_ok-write_line.ensures.bytes (row_line naming row) (c.row_line.ensures naming is));
  well = c.in_ok-write_line.ensures.health;
}
