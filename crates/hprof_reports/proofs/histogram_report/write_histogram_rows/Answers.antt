use Rattle.std.proofs.Common.{refl}
use Rattle.std.proofs.lemmas.Result.{err_from_is_err_and}
use Rattle.hprof_heap.specs.HeapFacts.{facts_of, size_of}
use Rattle.hprof_naming.proofs.Namings.{naming_exists}
use Rattle.hprof_rows.proofs.Order.{order_agrees}
use Rattle.hprof_reports.specs.HistogramText.{rows_text}
use Rattle.hprof_lines.proofs.TextWriting.{text_unwritten}
use Rattle.hprof_lines.proofs.WholeNames.{naming_same}
use Rattle.hprof_reports.proofs.histogram_report.write_histogram_rows.Goals as goal

-- memory was wanted before the first line
pub returns-in_err-names-clause-bytes : goal.returns-in_err-names-clause-bytes
returns-in_err-names-clause-bytes g c = λ all whole are.
    let naming = naming_exists all in
    let rows = c.args.rows.now in
    let p = err_from_is_err_and c.from_residual.result c.from_residual.ensures.1 in (
      rows_text naming.0 rows,
      record {
        agree = order_agrees all whole.ordered;
        naming = naming.0;
        is_naming = naming.1;
        rows = rows;
        are_rows = are;
        is = refl;
      },
      text_unwritten c.from_residual.result (g.W.Target.written c.args.target.now) p.0 (rows_text naming.0 rows) p.1,
    )

pub returns-clause-bytes : goal.returns-clause-bytes
returns-clause-bytes g c = λ all whole are.
    let naming = naming_exists all in
    let rows = c.args.rows.now in (
      rows_text naming.0 rows,
      record {
        agree = order_agrees all whole.ordered;
        naming = naming.0;
        is_naming = naming.1;
        rows = rows;
        are_rows = are;
        is = refl;
      },
      c.write_rows.ensures.bytes naming.0 (naming_same (size_of c.args.heap.now) (facts_of c.args.heap.now) all whole naming.0 naming.1),
    )
