use Rattle.std.proofs.Common.{◌≡◌, ℕ, None, ap}
use Rattle.std.specs.Ordering.{nat_cmp}
use Rattle.std.specs.BTreeMap.{get, is_at}
use Rattle.std.specs.Map.{lookup}
use Rattle.hprof_items.specs.FactValue.{value_of}
use Rattle.hprof_rows.specs.declared.table.Table.TheVariants as tables
use Rattle.hprof_rows.specs.FactsLeft.{facts_left}
use Rattle.hprof_rows.specs.Tables.{facts_of_table}
use Rattle.hprof_heap.specs.HeapFacts.{facts_of}
use Rattle.hprof_naming.specs.declared.class_names.Named.{Named}
use Rattle.hprof_naming.proofs.FirstLoads.{first_of_none, first_of_more, first_of_all, all_names}
use Rattle.hprof_naming.proofs.class_names.ClassNames.of.Goals as goal

pub loop-fact-init : goal.loop-fact-init
loop-fact-init c =
    rw c.into_iter-fact-iterator.ensures.into_iter_gives
    (first_of_none (facts_of_table tables.Loads (facts_of c.args.heap.now)) (facts_left c.table_facts-fact-items.result)
    (record { names = c.new.result }) c.table_facts-fact-items.ensures.all
    (λ (class : ℕ). ap (lookup (is_at (nat_cmp class))) c.new.ensures.empty))

pub loop-fact-preserved : goal.loop-fact-preserved
loop-fact-preserved c =
    first_of_more (facts_of_table tables.Loads (facts_of c.args.heap.now)) (facts_left c.loop-fact.fact-iterator)
    (facts_left c.next.new.self) c.loop-fact.names c.note.new.self (value_of c.in-Some.fact) c.in-Some.ensures.steps.0
    c.loop-fact.invariant c.in_ok-note.ensures

pub returns : goal.returns
returns c =
    all_names (facts_of c.args.heap.now) c.loop-fact.names
    (first_of_all (facts_of_table tables.Loads (facts_of c.args.heap.now)) (facts_left c.loop-fact.fact-iterator) c.loop-fact.names
    c.in-None.ensures.steps.0.0 c.loop-fact.invariant)
