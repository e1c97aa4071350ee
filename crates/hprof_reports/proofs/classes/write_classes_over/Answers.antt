use Rattle.std.proofs.Common.{Ok, Err}
use Rattle.hprof_heap.specs.HeapFacts.{facts_of, size_of}
use Rattle.hprof_histogram.specs.Known.{MadeUpWith}
use Rattle.hprof_reports.specs.ClassesText.{IsClassesText}
use Rattle.hprof_lines.proofs.PassedEnds.{ends_passed}
use Rattle.hprof_reports.proofs.classes.write_classes_over.Goals as goal

pub returns-in-Ok-write_counted : goal.returns-in-Ok-write_counted
returns-in-Ok-write_counted g c =
    let ids = size_of c.args.heap.now in
    let facts = facts_of c.args.heap.now in
    let objects = c.args.objects.now in
    ends_passed (MadeUpWith (g.O.Objects.make_up objects ids facts) ids c.args.known) (g.O.Objects.agree objects ids facts)
    (g.O.Objects.tells objects ids facts) (IsClassesText ids) g.W.Target.written
    g.W.Target.health c.args.target.now c.write_counted.new.target (Ok c.in-Ok-write_counted.field-0) c.in-Ok.ensures.0
    (λ all made. c.in-Ok-write_counted.ensures.bytes all
    (g.met.O.Objects.whole objects ids facts all made.0) (c.in-Ok.ensures.1 all made)) c.in-Ok-write_counted.ensures.health

pub returns : goal.returns
returns g c =
    let ids = size_of c.args.heap.now in
    let facts = facts_of c.args.heap.now in
    let objects = c.args.objects.now in
    ends_passed (MadeUpWith (g.O.Objects.make_up objects ids facts) ids c.args.known) (g.O.Objects.agree objects ids facts)
    (g.O.Objects.tells objects ids facts) (IsClassesText ids) g.W.Target.written
    g.W.Target.health c.args.target.now c.write_counted.new.target (Err c.in-Err-write_counted.stop) c.in-Ok.ensures.0
    (λ all made. c.in-Err-write_counted.ensures.bytes all
    (g.met.O.Objects.whole objects ids facts all made.0) (c.in-Ok.ensures.1 all made)) c.in-Err-write_counted.ensures.health
