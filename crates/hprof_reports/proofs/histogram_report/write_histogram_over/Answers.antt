use Rattle.std.proofs.Common.{List, Ok, Err, subst, sym}
use Rattle.hprof_heap.specs.HeapFacts.{facts_of, size_of}
use Rattle.hprof_histogram.specs.declared.row.Row.{Row}
use Rattle.hprof_histogram.specs.Histogram.{IsHistogram}
use Rattle.hprof_histogram.specs.Known.{MadeUpWith}
use Rattle.hprof_reports.specs.HistogramText.{IsHistogramText}
use Rattle.hprof_lines.proofs.PassedEnds.{ends_passed}
use Rattle.hprof_reports.proofs.histogram_report.write_histogram_over.Goals as goal

pub returns-in-Ok-write_histogram_rows : goal.returns-in-Ok-write_histogram_rows
returns-in-Ok-write_histogram_rows g c =
    let ids = size_of c.args.heap.now in
    let facts = facts_of c.args.heap.now in
    let objects = c.args.objects.now in
    ends_passed (MadeUpWith (g.O.Objects.make_up objects ids facts) ids c.args.known) (g.O.Objects.agree objects ids facts)
    (g.O.Objects.tells objects ids facts) (IsHistogramText ids) g.W.Target.written
    g.W.Target.health c.args.target.now c.write_histogram_rows.new.target (Ok c.in-Ok-write_histogram_rows.field-0) c.in-Ok.ensures.0
    (λ all made. c.in-Ok-write_histogram_rows.ensures.bytes all
    (g.met.O.Objects.whole objects ids facts all made.0)
    (subst (λ (rows : List Row). IsHistogram ids all rows) (sym c.deref.ensures.value) (c.in-Ok.ensures.1 all made)))
    c.in-Ok-write_histogram_rows.ensures.health

pub returns : goal.returns
returns g c =
    let ids = size_of c.args.heap.now in
    let facts = facts_of c.args.heap.now in
    let objects = c.args.objects.now in
    ends_passed (MadeUpWith (g.O.Objects.make_up objects ids facts) ids c.args.known) (g.O.Objects.agree objects ids facts)
    (g.O.Objects.tells objects ids facts) (IsHistogramText ids) g.W.Target.written
    g.W.Target.health c.args.target.now c.write_histogram_rows.new.target (Err c.in-Err-write_histogram_rows.stop) c.in-Ok.ensures.0
    (λ all made. c.in-Err-write_histogram_rows.ensures.bytes all
    (g.met.O.Objects.whole objects ids facts all made.0)
    (subst (λ (rows : List Row). IsHistogram ids all rows) (sym c.deref.ensures.value) (c.in-Ok.ensures.1 all made)))
    c.in-Err-write_histogram_rows.ensures.health
