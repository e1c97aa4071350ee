use Rattle.std.proofs.Common.{Ok, Err}
use Rattle.hprof_rows.proofs.Order.{order_agrees}
use Rattle.hprof_heap.specs.HeapFacts.{facts_of, size_of}
use Rattle.hprof_histogram.specs.Known.{MadeUpWith}
use Rattle.hprof_lines.proofs.PassedEnds.{ends_passed}
use Rattle.hprof_diff.specs.DifferenceText.{IsGrowthText}
use Rattle.hprof_diff.specs.Kept.{totals_in}
use Rattle.hprof_diff.proofs.report.write_growth_over.Goals as goal

pub returns-in-Ok-write_difference : goal.returns-in-Ok-write_difference
returns-in-Ok-write_difference g c =
    let ids = size_of c.args.heap.now in
    let facts = facts_of c.args.heap.now in
    let objects = c.args.objects.now in
    ends_passed (MadeUpWith (g.O.Objects.make_up objects ids facts) ids c.args.known) (g.O.Objects.agree objects ids facts)
    (g.O.Objects.tells objects ids facts) (IsGrowthText (totals_in c.args.old.now) ids) g.W.Target.written
    g.W.Target.health c.args.target.now c.write_difference.new.target (Ok c.in-Ok-write_difference.field-0) c.in-Ok.ensures.0 (λ all made.
    let wrote = c.in-Ok-write_difference.ensures.bytes in (
      wrote.0,
      record {
        agree = order_agrees all (g.met.O.Objects.whole objects ids facts all made.0).ordered;
        new = totals_in c.in-Ok.new;
        are_totals = c.in-Ok.ensures.1 all made;
        is = wrote.1;
      },
      wrote.2,
    )) c.in-Ok-write_difference.ensures.health

pub returns : goal.returns
returns g c =
    let ids = size_of c.args.heap.now in
    let facts = facts_of c.args.heap.now in
    let objects = c.args.objects.now in
    ends_passed (MadeUpWith (g.O.Objects.make_up objects ids facts) ids c.args.known) (g.O.Objects.agree objects ids facts)
    (g.O.Objects.tells objects ids facts) (IsGrowthText (totals_in c.args.old.now) ids) g.W.Target.written
    g.W.Target.health c.args.target.now c.write_difference.new.target (Err c.in-Err-write_difference.stop) c.in-Ok.ensures.0 (λ all made.
    let wrote = c.in-Err-write_difference.ensures.bytes in (
      wrote.0,
      record {
        agree = order_agrees all (g.met.O.Objects.whole objects ids facts all made.0).ordered;
        new = totals_in c.in-Ok.new;
        are_totals = c.in-Ok.ensures.1 all made;
        is = wrote.1;
      },
      wrote.2,
    )) c.in-Err-write_difference.ensures.health
