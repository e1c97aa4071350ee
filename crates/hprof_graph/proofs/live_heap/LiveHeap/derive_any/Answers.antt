use Rattle.std.proofs.Common.{◌≡◌, List, sym, subst, ap, ◌∙◌}
use Rattle.hprof_values.specs.declared.ids.IdSize.{IdSize}
use Rattle.hprof_items.specs.FactValue.{FactValue, value_of}
use Rattle.hprof_rows.specs.HeapValue.{HeapValue}
use Rattle.hprof_heap.specs.Gathering.{answer_of, gathered}
use Rattle.hprof_heap.specs.HeapFacts.{facts_of, size_of}
use Rattle.hprof_graph.specs.Derived.{AddsFact, IsDerived}
use Rattle.hprof_graph.proofs.Outcomes.{is_lent}
use Rattle.hprof_graph.proofs.live_heap.LiveHeap.derive_any.Goals as goal

pub returns-in_ok-add-in-Some-clause-derives : goal.returns-in_ok-add-in-Some-clause-derives
returns-in_ok-add-in-Some-clause-derives c = λ before heap outcome adds is.
    let fact = value_of c.args.fact.now in
    let lent = is_lent (answer_of (gathered c.args.self.now.gatherer)) c.in-Some.heap.now c.in-Some.ensures in
    let both = sym outcome ∙ lent.is in
    let same : heap ≡ lent.value = cc in
    let ids : size_of c.in-Some.heap.now ≡ heap.ids = lent.ids ∙ ap (λ (h : HeapValue). h.ids) (sym same) in
    let facts : facts_of c.in-Some.heap.now ≡ heap.facts = lent.facts ∙ ap (λ (h : HeapValue). h.facts) (sym same) in
    subst (λ (i : IdSize). IsDerived i heap.facts c.add.new.self) ids
    (subst (λ (f : List FactValue). IsDerived (size_of c.in-Some.heap.now) f c.add.new.self) facts
    (c.in_ok-add-in-Some.ensures.adds before (subst (λ (f : List FactValue). AddsFact before fact f) (sym facts) adds)
    (subst (λ (i : IdSize). IsDerived i before c.args.self.now.derived) (sym ids) is)))
