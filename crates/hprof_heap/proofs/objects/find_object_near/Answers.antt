use Rattle.std.proofs.Common.{sym, subst}
use Rattle.hprof_items.specs.FactValue.{FactValue, value_of}
use Rattle.hprof_rows.specs.declared.key.Key.TheVariants as keys
use Rattle.hprof_rows.specs.Key.{has_key, key_of}
use Rattle.hprof_rows.proofs.Keys.{is_key-true}
use Rattle.hprof_rows.proofs.Picking.{found}
use Rattle.hprof_heap.specs.HeapFacts.{facts_of, size_of}
use Rattle.hprof_heap.proofs.ObjectFacts.{IsOnlyObject, no_object_found, object_found, only_object}
use Rattle.hprof_heap.proofs.objects.find_object_near.Goals as goal

pub returns-in_err-fact : goal.returns-in_err-fact
returns-in_err-fact c =
    rw c.from_residual.ensures
    (no_object_found (size_of c.args.heap.now) (facts_of c.args.heap.now) c.args.object (sym c.in_err-fact.ensures.value))

pub unreachable-requires : goal.unreachable-requires
unreachable-requires c =
    let is = found (has_key (keys.Object c.args.object)) (facts_of c.args.heap.now) (value_of c.in_ok-fact.fact)
    (sym c.in_ok-fact.ensures.value) in
    c.in_default.ensures.none c.args.object
    (is_key-true (keys.Object c.args.object) (key_of (value_of c.in_ok-fact.fact)) is.passes)

pub returns : goal.returns
returns c =
    object_found (size_of c.args.heap.now) (facts_of c.args.heap.now) c.args.object c.in-Some.dump
    (subst (λ (fact : FactValue). IsOnlyObject (facts_of c.args.heap.now) c.args.object fact) (sym c.in-Some.ensures.found)
    (only_object (facts_of c.args.heap.now) c.args.object (value_of c.in_ok-fact.fact) c.holds_of_heap.ensures.agree
    (sym c.in_ok-fact.ensures.value))) (c.in-Some.ensures.lists _ c.in_ok-fact.ensures.lists)
