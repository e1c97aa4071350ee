use Rattle.std.proofs.Common.{sym, ap, subst}
use Rattle.hprof_items.specs.FactValue.{FactValue, value_of}
use Rattle.hprof_rows.specs.declared.key.Key.TheVariants as keys
use Rattle.hprof_rows.specs.Key.{has_key}
use Rattle.hprof_rows.proofs.Picking.{IsPicked, found}
use Rattle.hprof_heap.specs.HeapFacts.{facts_of}
use Rattle.hprof_heap.specs.Names.{HasName}
use Rattle.hprof_heap.proofs.NameFacts.{none_found, is_name_fact, key_name, one_name}
use Rattle.hprof_heap.proofs.names.find_name.Goals as goal

pub returns-in_err-text-clause-none : goal.returns-in_err-text-clause-none
returns-in_err-text-clause-none c =
    rw c.from_residual.ensures (none_found (facts_of c.args.heap.now) c.args.name (sym c.in_err-text.ensures))

pub unreachable-requires : goal.unreachable-requires
unreachable-requires c =
    let is = found (has_key (keys.Name c.args.name)) (facts_of c.args.heap.now) (value_of c.in_ok-text.field-0)
    (sym c.in_ok-text.ensures) in
    is_name_fact c.args.name c.in_ok-text.field-0 is.passes c.in_default.not-Name

-- the name that was found
abbrev is_there : (c : goal.In-Name) → HasName (facts_of c.args.heap.now) c.args.name c.in-Name.text.now
is_there c =
    let is = subst (λ (fact : FactValue). IsPicked (has_key (keys.Name c.args.name)) (facts_of c.args.heap.now) fact)
    (ap value_of c.in-Name.is)
    (found (has_key (keys.Name c.args.name)) (facts_of c.args.heap.now) (value_of c.in_ok-text.field-0) (sym c.in_ok-text.ensures)) in
    let same = key_name c.args.name c.in-Name.id c.in-Name.text.now is.passes in
    rw same at is.has

pub returns-clause-found : goal.returns-clause-found
returns-clause-found c = is_there c

pub returns-clause-only : goal.returns-clause-only
returns-clause-only c = λ other has.
    one_name (facts_of c.args.heap.now) c.args.name c.in-Name.text.now other c.holds_of_heap.ensures.agree (is_there c) has
