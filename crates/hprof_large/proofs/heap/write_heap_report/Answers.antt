use Rattle.std.proofs.Common.{ℕ, List, sym, subst}
use Rattle.hprof_items.specs.FactValue.{FactValue}
use Rattle.hprof_heap.specs.HeapFacts.{facts_of, size_of}
use Rattle.hprof_histogram.specs.Known.{MadeUpWith}
use Rattle.hprof_lines.specs.Passed.{EndsPassed}
use Rattle.hprof_questions.specs.declared.report.HeapReport.{HeapReport}
use Rattle.hprof_questions.specs.declared.report.HeapReport.TheVariants as heaps
use Rattle.hprof_ask.specs.Report.{IsHeapReport}
use Rattle.hprof_large.proofs.FewerMade.{passed_fewer}
use Rattle.hprof_large.proofs.heap.write_heap_report.Goals as goal

pub returns-in-Check-clause-ends : goal.returns-in-Check-clause-ends
returns-in-Check-clause-ends g c =
    let ids = size_of c.args.heap.now in
    let facts = facts_of c.args.heap.now in
    let objects = c.args.objects.now in
    let MakeUp = g.O.Objects.make_up objects ids facts in
    let Made = MadeUpWith MakeUp ids c.args.known in
    let agree = g.O.Objects.agree objects ids facts in
    let tells = g.O.Objects.tells objects ids facts in
    let IsText : HeapReport → List FactValue → List ℕ → Type 0 = λ report all. IsHeapReport c.args.summaries.now ids all report in
    subst (λ (report : HeapReport). EndsPassed Made agree tells (IsText report) g.W.Target.written g.W.Target.health c.args.target.now
    c.write_check.new.target c.write_check.result) (sym c.in-Check.is)
    (passed_fewer MakeUp Made agree tells (IsText heaps.Check) g.W.Target.written g.W.Target.health c.args.target.now
    c.write_check.new.target (λ all made. made.0) c.write_check.result c.write_check.ensures)

pub returns-in-Histogram-clause-ends : goal.returns-in-Histogram-clause-ends
returns-in-Histogram-clause-ends g c =
    let ids = size_of c.args.heap.now in
    let facts = facts_of c.args.heap.now in
    let objects = c.args.objects.now in
    let MakeUp = g.O.Objects.make_up objects ids facts in
    let Made = MadeUpWith MakeUp ids c.args.known in
    let agree = g.O.Objects.agree objects ids facts in
    let tells = g.O.Objects.tells objects ids facts in
    let IsText : HeapReport → List FactValue → List ℕ → Type 0 = λ report all. IsHeapReport c.args.summaries.now ids all report in
    subst (λ (report : HeapReport). EndsPassed Made agree tells (IsText report) g.W.Target.written g.W.Target.health c.args.target.now
    c.write_histogram_over.new.target c.write_histogram_over.result) (sym c.in-Histogram.is)
    c.write_histogram_over.ensures

pub returns-in-Classes-clause-ends : goal.returns-in-Classes-clause-ends
returns-in-Classes-clause-ends g c =
    let ids = size_of c.args.heap.now in
    let facts = facts_of c.args.heap.now in
    let objects = c.args.objects.now in
    let MakeUp = g.O.Objects.make_up objects ids facts in
    let Made = MadeUpWith MakeUp ids c.args.known in
    let agree = g.O.Objects.agree objects ids facts in
    let tells = g.O.Objects.tells objects ids facts in
    let IsText : HeapReport → List FactValue → List ℕ → Type 0 = λ report all. IsHeapReport c.args.summaries.now ids all report in
    subst (λ (report : HeapReport). EndsPassed Made agree tells (IsText report) g.W.Target.written g.W.Target.health c.args.target.now
    c.write_classes_over.new.target c.write_classes_over.result) (sym c.in-Classes.is)
    c.write_classes_over.ensures

pub returns-in-Threads-clause-ends : goal.returns-in-Threads-clause-ends
returns-in-Threads-clause-ends g c =
    let ids = size_of c.args.heap.now in
    let facts = facts_of c.args.heap.now in
    let objects = c.args.objects.now in
    let MakeUp = g.O.Objects.make_up objects ids facts in
    let Made = MadeUpWith MakeUp ids c.args.known in
    let agree = g.O.Objects.agree objects ids facts in
    let tells = g.O.Objects.tells objects ids facts in
    let IsText : HeapReport → List FactValue → List ℕ → Type 0 = λ report all. IsHeapReport c.args.summaries.now ids all report in
    subst (λ (report : HeapReport). EndsPassed Made agree tells (IsText report) g.W.Target.written g.W.Target.health c.args.target.now
    c.write_threads_over.new.target c.write_threads_over.result) (sym c.in-Threads.is)
    (passed_fewer MakeUp Made agree tells (IsText heaps.Threads) g.W.Target.written g.W.Target.health c.args.target.now
    c.write_threads_over.new.target (λ all made. made.0) c.write_threads_over.result c.write_threads_over.ensures)

pub returns-in-Suspects-clause-ends : goal.returns-in-Suspects-clause-ends
returns-in-Suspects-clause-ends g c =
    let ids = size_of c.args.heap.now in
    let facts = facts_of c.args.heap.now in
    let objects = c.args.objects.now in
    let MakeUp = g.O.Objects.make_up objects ids facts in
    let Made = MadeUpWith MakeUp ids c.args.known in
    let agree = g.O.Objects.agree objects ids facts in
    let tells = g.O.Objects.tells objects ids facts in
    let IsText : HeapReport → List FactValue → List ℕ → Type 0 = λ report all. IsHeapReport c.args.summaries.now ids all report in
    subst (λ (report : HeapReport). EndsPassed Made agree tells (IsText report) g.W.Target.written g.W.Target.health c.args.target.now
    c.write_suspects_over.new.target c.write_suspects_over.result) (sym c.in-Suspects.is)
    (passed_fewer MakeUp Made agree tells (IsText heaps.Suspects) g.W.Target.written g.W.Target.health c.args.target.now
    c.write_suspects_over.new.target (λ all made. made.0) c.write_suspects_over.result c.write_suspects_over.ensures.ends)

pub returns-in-Retained-clause-ends : goal.returns-in-Retained-clause-ends
returns-in-Retained-clause-ends g c =
    let ids = size_of c.args.heap.now in
    let facts = facts_of c.args.heap.now in
    let objects = c.args.objects.now in
    let MakeUp = g.O.Objects.make_up objects ids facts in
    let Made = MadeUpWith MakeUp ids c.args.known in
    let agree = g.O.Objects.agree objects ids facts in
    let tells = g.O.Objects.tells objects ids facts in
    let IsText : HeapReport → List FactValue → List ℕ → Type 0 = λ report all. IsHeapReport c.args.summaries.now ids all report in
    subst (λ (report : HeapReport). EndsPassed Made agree tells (IsText report) g.W.Target.written g.W.Target.health c.args.target.now
    c.write_retained_over.new.target c.write_retained_over.result) (sym c.in-Retained.is)
    (passed_fewer MakeUp Made agree tells (IsText heaps.Retained) g.W.Target.written g.W.Target.health c.args.target.now
    c.write_retained_over.new.target (λ all made. made.0) c.write_retained_over.result c.write_retained_over.ensures.ends)
