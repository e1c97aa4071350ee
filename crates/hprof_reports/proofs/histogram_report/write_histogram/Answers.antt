use Rattle.std.proofs.Common.{None, refl}
use Rattle.std.specs.Prelude.{⊤}
use Rattle.hprof_heap.specs.HeapFacts.{facts_of, size_of}
use Rattle.hprof_passes.specs.Passing.{IsItself}
use Rattle.hprof_histogram.proofs.SomeHistogram.{at_least_one}
use Rattle.hprof_histogram.specs.Known.{MadeUpWith}
use Rattle.hprof_naming.proofs.Namings.{naming_exists}
use Rattle.hprof_reports.specs.HistogramText.{IsHistogramText, rows_text}
use Rattle.hprof_lines.proofs.PassedEnds.{in_memory}
use Rattle.hprof_reports.proofs.histogram_report.write_histogram.Goals as goal

-- memory may be wanted before the first line
pub returns-in-Err-clause-bytes : goal.returns-in-Err-clause-bytes
returns-in-Err-clause-bytes g c =
    let ids = size_of c.args.heap.now in
    let facts = facts_of c.args.heap.now in
    in_memory (MadeUpWith (IsItself ids facts) ids None) ⊤ (λ fault. ⊥) (IsHistogramText ids) g.W.Target.written g.W.Target.health
    c.args.target.now c.write_histogram_over.new.target facts (
      record {
        same = refl;
        fit = c.holds_of_heap.ensures.fit;
        ordered = c.holds_of_heap.ensures.ordered;
      },
      tt,
    ) (let naming = naming_exists facts in
    let rows = at_least_one ids facts in (
      rows_text naming.0 rows.0,
      record {
        agree = c.holds_of_heap.ensures.agree;
        naming = naming.0;
        is_naming = naming.1;
        rows = rows.0;
        are_rows = rows.1;
        is = refl;
      },
    )) c.in-Err.stop c.of_sink.result c.of_sink.ensures c.in-Err.ensures
