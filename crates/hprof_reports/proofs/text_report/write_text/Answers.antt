use Rattle.std.proofs.Common.{refl}
use Rattle.std.proofs.lemmas.Result.{err_from_is_err_and}
use Rattle.hprof_heap.specs.HeapFacts.{facts_of, size_of}
use Rattle.hprof_naming.proofs.OneText.{text_exists}
use Rattle.hprof_lines.proofs.TextWriting.{text_unwritten}
use Rattle.hprof_reports.specs.TextReport.{text_line}
use Rattle.hprof_reports.proofs.text_report.write_text.Goals as goal

-- memory was wanted before the first byte
pub returns-in_err-text-clause-bytes : goal.returns-in_err-text-clause-bytes
returns-in_err-text-clause-bytes g c =
    let text = text_exists (size_of c.args.heap.now) (facts_of c.args.heap.now) c.args.id in
    let p = err_from_is_err_and c.from_residual.result c.from_residual.ensures.1 in (
      text_line c.args.id text.0,
      record { agree = c.holds_of_heap.ensures.agree; text = text.0; is_text = text.1; is = refl },
      text_unwritten c.from_residual.result (g.W.Target.written c.args.target.now) p.0 (text_line c.args.id text.0) p.1,
    )
