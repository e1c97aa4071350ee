use Rattle.std.proofs.Common.{◌≡◌, ◌++◌, ◌∷◌, [], ℕ, List, sym, ap, subst, ◌∙◌, refl}
use Rattle.hprof_values.specs.declared.ids.IdSize.{IdSize}
use Rattle.hprof_items.specs.FactValue.{Instance}
use Rattle.hprof_rows.specs.Facts.{Has}
use Rattle.hprof_heap.specs.HeapFacts.{facts_of}
use Rattle.hprof_heap.specs.ObjectDump.{fact_of_object}
use Rattle.hprof_layouts.specs.Known.{HasLayout}
use Rattle.hprof_graph.specs.Derived.{IsDeriving}
use Rattle.hprof_graph.proofs.derived.Derived.lay_waiting.Goals as goal

-- what is found is the instance
pub returns-in_ok-lay-in-Some-Instance-clause-lays : goal.returns-in_ok-lay-in-Some-Instance-clause-lays
returns-in_ok-lay-in-Some-Instance-clause-lays c = λ laid gone class is_of layout fresh is.
    let facts = facts_of c.args.heap.now in
    let instance = c.args.instance in
    let at = c.in-Some-Instance in
    let same : Instance at.field-0-0 at.field-0-1 at.class at.bytes.now ≡ Instance instance is_of.1.trace class is_of.0 =
    sym (ap fact_of_object at.field-0-is) ∙ at.ensures.only (Instance instance is_of.1.trace class is_of.0) is_of.1.has refl in
    let class_is : class ≡ at.class = cc in
    let bytes_are : is_of.0 ≡ at.bytes.now = cc in
    subst (λ (ids : IdSize). IsDeriving ids facts c.lay.new.self (laid ++ instance ∷ []) gone) c.id_size.ensures.value
    (c.in_ok-lay-in-Some-Instance.ensures.lays facts laid gone is_of.1.trace
    (subst (λ (b : List ℕ). Has facts (Instance instance is_of.1.trace at.class b)) bytes_are
    (subst (λ (n : ℕ). Has facts (Instance instance is_of.1.trace n is_of.0)) class_is is_of.1.has))
    (subst (HasLayout facts) class_is layout) fresh
    (subst (λ (ids : IdSize). IsDeriving ids facts c.args.self.now laid gone) (sym c.id_size.ensures.value) is))
