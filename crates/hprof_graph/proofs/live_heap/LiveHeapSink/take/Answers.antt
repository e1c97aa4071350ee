use Rattle.std.proofs.Common.{◌≡◌, Option, Some, refl, sym, ap, subst, ◌∙◌, inl, inr}
use Rattle.hprof_items.specs.FactValue.{value_of}
use Rattle.hprof_tables.specs.declared.relation.Stated.{Stated}
use Rattle.hprof_tables.specs.declared.relation.Stated.TheVariants.{New}
use Rattle.hprof_heap.specs.Gathering.{TellsStated, Gathered, IsStated, Takes, answer_of, gathered}
use Rattle.hprof_graph.proofs.Outcomes.{takes_first_live, takes_live}
use Rattle.hprof_graph.proofs.live_heap.LiveHeapSink.take.Goals as goal

pub returns-in_default-clause-steps : goal.returns-in_default-clause-steps
returns-in_default-clause-steps c =
    takes_live c.args.self.now c.if-self.false (record c.args.self.now { gatherer = c.state.new.self }) c.if-self.false
    (value_of c.args.fact.now) c.in_ok-stated.ensures.steps c.in_ok-stated.field-0 c.in_ok-stated.ensures.stated
    (λ e. cc c.in_default.is) refl

pub returns-in-Same-clause-steps : goal.returns-in-Same-clause-steps
returns-in-Same-clause-steps c =
    takes_live c.args.self.now c.if-self.false (record c.args.self.now { gatherer = c.state.new.self }) c.if-self.false
    (value_of c.args.fact.now) c.in_ok-stated.ensures.steps c.in_ok-stated.field-0 c.in_ok-stated.ensures.stated
    (λ e. elim c.in-Same.is [ inl same ↦ cc | inr differs ↦ cc ]) refl

pub returns-in-Ok-clause-steps : goal.returns-in-Ok-clause-steps
returns-in-Ok-clause-steps c =
    let fact = value_of c.args.fact.now in
    let old = gathered c.args.self.now.gatherer in
    let same = c.in-Ok.ensures.gathered in
    let came : c.in_ok-stated.field-0 ≡ Some New = c.in-Some.is ∙ ap (λ (s : Stated). Some s) c.in-New.is in
    takes_first_live c.args.self.now c.if-self.false c.derive.new.self (c.in-Ok.ensures.failed ∙ c.if-self.false) fact
    (subst (λ (g : Gathered). Takes old fact g) (sym same) c.in_ok-stated.ensures.steps)
    (subst (λ (g : Gathered). IsStated old fact New g) (sym same)
    (subst (λ (o : Option Stated). TellsStated old fact o (gathered c.state.new.self)) came c.in_ok-stated.ensures.stated))
    (λ before heap outcome adds is. c.in-Ok.ensures.derives before heap (sym (ap answer_of same) ∙ outcome) adds is)
    c.in-Ok.ensures.keeps
