use Rattle.std.proofs.Common.{sym, subst}
use Rattle.hprof_heap.specs.HeapFacts.{facts_of, size_of}
use Rattle.hprof_lines.specs.Passed.{EndsPassed}
use Rattle.hprof_ask.specs.Report.{IsKindReport}
use Rattle.hprof_questions.specs.declared.report.KindReport.{KindReport}
use Rattle.hprof_large.proofs.kind.write_of_kind.Goals as goal

pub returns-in-Biggest-clause-ends : goal.returns-in-Biggest-clause-ends
returns-in-Biggest-clause-ends g c =
    let ids = size_of c.args.heap.now in
    let facts = facts_of c.args.heap.now in
    let objects = c.args.objects.now in
    subst (λ (report : KindReport). EndsPassed (g.O.Objects.make_up objects ids facts) (g.O.Objects.agree objects ids facts)
    (g.O.Objects.tells objects ids facts) (λ all. IsKindReport ids all report c.args.kind) g.W.Target.written
    g.W.Target.health c.args.target.now c.write_biggest_over.new.target c.write_biggest_over.result) (sym c.in-Biggest.is)
    c.write_biggest_over.ensures.ends

pub returns-in-Objects-clause-ends : goal.returns-in-Objects-clause-ends
returns-in-Objects-clause-ends g c =
    let ids = size_of c.args.heap.now in
    let facts = facts_of c.args.heap.now in
    let objects = c.args.objects.now in
    subst (λ (report : KindReport). EndsPassed (g.O.Objects.make_up objects ids facts) (g.O.Objects.agree objects ids facts)
    (g.O.Objects.tells objects ids facts) (λ all. IsKindReport ids all report c.args.kind) g.W.Target.written
    g.W.Target.health c.args.target.now c.write_objects_over.new.target c.write_objects_over.result) (sym c.in-Objects.is)
    c.write_objects_over.ensures
