use Rattle.std.proofs.Common.{sym, subst}
use Rattle.hprof_items.specs.FactValue.{FactValue, value_of}
use Rattle.hprof_rows.specs.declared.key.Key.TheVariants as keys
use Rattle.hprof_rows.specs.Key.{has_key, key_of}
use Rattle.hprof_rows.proofs.Keys.{is_key-true}
use Rattle.hprof_rows.proofs.Picking.{IsPicked, found}
use Rattle.hprof_heap.specs.HeapFacts.{facts_of, size_of}
use Rattle.hprof_heap.specs.ClassDump.{class_value}
use Rattle.hprof_heap.proofs.ClassFacts.{class_found, key_is_dump, key_dump, no_class_found}
use Rattle.hprof_heap.proofs.classes.find_class_near.Goals as goal

pub returns-in_err-fact : goal.returns-in_err-fact
returns-in_err-fact c =
    rw c.from_residual.ensures
    (no_class_found (size_of c.args.heap.now) (facts_of c.args.heap.now) c.args.class (sym c.in_err-fact.ensures.value))

pub unreachable-requires : goal.unreachable-requires
unreachable-requires c =
    let is = found (has_key (keys.Class c.args.class)) (facts_of c.args.heap.now) (value_of c.in_ok-fact.fact)
    (sym c.in_ok-fact.ensures.value) in
    let of = key_is_dump c.args.class (value_of c.in_ok-fact.fact)
    (is_key-true (keys.Class c.args.class) (key_of (value_of c.in_ok-fact.fact)) is.passes) in
    c.in_default.ensures.none of.dump of.is

pub returns : goal.returns
returns c =
    let picked = subst (λ (fact : FactValue). IsPicked (has_key (keys.Class c.args.class)) (facts_of c.args.heap.now) fact)
    (sym c.in-Some.ensures.found)
    (found (has_key (keys.Class c.args.class)) (facts_of c.args.heap.now) (value_of c.in_ok-fact.fact) (sym c.in_ok-fact.ensures.value)) in
    class_found (size_of c.args.heap.now) (facts_of c.args.heap.now) c.args.class c.in-Some.dump c.holds_of_heap.ensures.agree picked.has
    (key_dump c.args.class (class_value c.in-Some.dump) picked.passes) (c.in-Some.ensures.lists _ c.in_ok-fact.ensures.lists)
