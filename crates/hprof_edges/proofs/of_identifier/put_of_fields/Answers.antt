use Rattle.std.proofs.Common.{◌≡◌, List, refl, sym, subst}
use Rattle.hprof_layouts.specs.declared.field_value.FieldValue.{FieldValue}
use Rattle.hprof_layouts.specs.declared.field_value.Fields.{Fields}
use Rattle.hprof_layouts.specs.declared.field_value.Fields.TheVariants as variants
use Rattle.hprof_layouts.specs.Fields.{AreFields, Values, fields_value}
use Rattle.hprof_heap.specs.HeapFacts.{facts_of, size_of}
use Rattle.hprof_edges.specs.declared.edge.Via.TheVariants as vias
use Rattle.hprof_edges.specs.DumpEdges.{GivenByInstance}
use Rattle.hprof_edges.specs.EdgeLists.{numbered, targets_of_values}
use Rattle.hprof_edges.proofs.ObjectDumpEdges.{by_values, no_values}
use Rattle.hprof_edges.proofs.PutTogether.{put_nothing}
use Rattle.hprof_edges.proofs.of_identifier.put_of_fields.Goals as goal

-- what is no list of values is none as a value
other_answer : (answer : Fields) → ((values : _) → answer ≡ variants.Values values → ⊥) → (values : List FieldValue)
    → fields_value answer ≡ Values values → ⊥
other_answer (variants.Values given) none values e = none given refl
other_answer (variants.Missing class) none values e = cc
other_answer variants.Cyclic none values e = cc
other_answer (variants.WidthDiffers width) none values e = cc
other_answer variants.NotAnInstance none values e = cc
other_answer variants.NoObject none values e = cc

pub returns-in_default : goal.returns-in_default
returns-in_default g c = record {
  holds = λ edges held.
      put_nothing edges (g.C.Collect.holds c.args.into.now) (GivenByInstance (size_of c.args.heap.now)
      (facts_of c.args.heap.now) c.args.id) held
      (no_values (size_of c.args.heap.now) (facts_of c.args.heap.now) c.args.id c.holds_of_heap.ensures.agree _ c.in_ok-values.ensures
      (other_answer _ c.in_default.not-Values));
  keeps = refl;
}

pub returns-clause-holds : goal.returns-clause-holds
returns-clause-holds g c = λ edges held.
    let ids = size_of c.args.heap.now in
    let facts = facts_of c.args.heap.now in
    let are = subst (λ (why : Fields). AreFields ids facts c.args.id (fields_value why)) c.in-Values.is c.in_ok-values.ensures in
    let values = c.deref.result.now in
    record {
      more = numbered c.args.id vias.Field 0 (targets_of_values values);
      holds_more = c.in_ok-put_values.ensures.holds edges held;
      exact = by_values ids facts c.args.id c.holds_of_heap.ensures.agree values
          (subst (λ (list : List FieldValue). AreFields ids facts c.args.id (Values list)) (sym c.deref.ensures.value) are);
    }
