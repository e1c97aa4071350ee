use Rattle.std.proofs.Common.{◌≡◌, false, true, refl, sym, subst, ◌∙◌}
use Rattle.std.specs.List.Sorted.{IsStrictlyIncreasing}
use Rattle.hprof_heap.specs.HeapFacts.{facts_of, size_of}
use Rattle.hprof_meaning.specs.MeantClasses.{AreMeantClasses}
use Rattle.hprof_questions.specs.declared.report.Kinds.TheVariants.{Named}
use Rattle.hprof_questions.specs.declared.report.Report.TheVariants as reports
use Rattle.hprof_ask.specs.Report.{IsNamedKind, IsReportOfClasses, RefusesReport}
use Rattle.hprof_making.proofs.Passed.{ends_over}
use Rattle.hprof_large.proofs.NamedKind.{named_kind, none_meant, stops_before}
use Rattle.hprof_large.proofs.kind.write_kind_named.Goals as goal

pub returns-in-Err-clause-ends : goal.returns-in-Err-clause-ends
returns-in-Err-clause-ends g c =
    let ids = size_of c.args.heap.now in
    let facts = facts_of c.args.heap.now in
    let objects = c.args.objects.now in
    stops_before (g.O.Objects.make_up objects ids facts) (g.O.Objects.agree objects ids facts) (g.O.Objects.tells objects ids facts)
    (λ all. IsNamedKind ids all c.args.report c.args.name.now) (λ refusal all. RefusesReport all
    (reports.Kind c.args.report (Named c.args.name)) refusal)
    g.W.Target.written g.W.Target.health c.args.target.now c.in-Err.stop c.stop_of_pass.result c.stop_of_pass.ensures
    (c.in-Err.ensures.meant c.args.name.now c.of-meant.ensures)

-- no class has the name
pub returns-then-not-is_answered-clause-ends : goal.returns-then-not-is_answered-clause-ends
returns-then-not-is_answered-clause-ends g c =
    let meant = c.in-Ok-classes_meant_over.ensures.meant c.args.name.now c.of-meant.ensures in
    let none = none_meant c.deref.result.now (λ answered. let no : false ≡ true = c.if-not-is_answered.ensures.1 answered in absurd cc) in (
      meant.0,
      λ all make. (subst (AreMeantClasses all c.args.name.now) (sym c.deref.ensures.value ∙ none.0) (meant.1 all make), none.1),
      refl,
    )

pub write_of_classes-requires-clause-ascend : goal.write_of_classes-requires-clause-ascend
write_of_classes-requires-clause-ascend g c = subst IsStrictlyIncreasing (sym c.deref-2.ensures.value)
    (c.in-Ok-classes_meant_over.ensures.ascend c.args.name.now c.of-meant.ensures)

pub returns-clause-ends : goal.returns-clause-ends
returns-clause-ends g c =
    let ids = size_of c.args.heap.now in
    let facts = facts_of c.args.heap.now in
    let objects = c.args.objects.now in
    let name = c.args.name.now in
    let classes = c.deref-2.result.now in
    let meant = c.in-Ok-classes_meant_over.ensures.meant name c.of-meant.ensures in
    ends_over (g.O.Objects.make_up objects ids facts) (g.O.Objects.agree objects ids facts) (g.O.Objects.tells objects ids facts)
    (λ all. IsReportOfClasses ids all c.args.report name classes) (λ all. IsNamedKind ids all c.args.report name)
    g.W.Target.written g.W.Target.health c.args.target.now c.write_of_classes.new.target
    (λ all text make is. named_kind ids all c.args.report name classes text
    (subst (AreMeantClasses all name) (sym c.deref-2.ensures.value) (meant.1 all make))
    (λ e. c.if-not-is_answered.ensures.0 refl (c.deref.ensures.value ∙ sym c.deref-2.ensures.value ∙ e)) is)
    (λ refusal all. RefusesReport all (reports.Kind c.args.report (Named c.args.name)) refusal) c.write_of_classes.result
    c.write_of_classes.ensures.ends
