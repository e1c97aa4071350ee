use Rattle.std.proofs.Common.{◌⊎◌, sym, subst, inl, inr}
use Rattle.hprof_items.specs.FactValue.{value_of}
use Rattle.hprof_rows.specs.declared.key.Key.TheVariants as keys
use Rattle.hprof_rows.specs.declared.table.Table.TheVariants as tables
use Rattle.hprof_rows.specs.FactsLeft.{facts_left}
use Rattle.hprof_rows.specs.Tables.{facts_of_table}
use Rattle.hprof_heap.specs.HeapFacts.{facts_of}
use Rattle.hprof_keeps.specs.Chosen.{IsClassAlone}
use Rattle.hprof_keeps.specs.Gathered.{IsChosenObject, IsGiven, IsLoneClass}
use Rattle.hprof_keeps.proofs.ChosenNodes.{class_key, classes_of_table, one_class_key}
use Rattle.hprof_keeps.proofs.GivenPlaces.{Among, Gathering, all_came, came_given, came_other, next_has, none_came, same_places}
use Rattle.hprof_keeps.proofs.chosen.push_classes.Goals as goal

pub loop-facts-init : goal.loop-facts-init
loop-facts-init c = λ other choice none before.
    let facts = facts_of c.args.heap.now in
    none_came (IsLoneClass facts) c.args.retained.now (IsGiven (IsChosenObject choice) other) (facts_of_table tables.Classes facts)
    (facts_left c.table_facts-facts.result) c.args.places.now.items c.table_facts-facts.ensures.all c.table_facts-facts.ensures.ordered
    before

pub loop-facts-preserved-in-Continue-1 : goal.loop-facts-preserved-in-Continue-1
loop-facts-preserved-in-Continue-1 c = λ other choice none before.
    let facts = facts_of c.args.heap.now in
    let Gives = IsLoneClass facts in
    let Before = IsGiven (IsChosenObject choice) other in
    let retained = c.args.retained.now in
    let table = facts_of_table tables.Classes facts in
    let rest = facts_left c.next_into.new.self in
    let fact = value_of c.next_into.new.fact in
    subst (Gathering Gives retained Before table rest) (sym c.in_ok-push_place.ensures)
    (came_given Gives retained Before table (facts_left c.loop-facts.facts) rest fact c.loop-facts.places.items
    (c.next_into.ensures.some c.loop-facts-test.true) (c.loop-facts.invariant other choice none before) keys.Class (class_key facts)
    one_class_key c.in-Some.node c.in-Some.ensures
    (λ given. none c.in-Some.node ((classes_of_table facts c.in-Some.node).0 (
      fact,
      next_has Gives retained Before table (facts_left c.loop-facts.facts) rest fact c.loop-facts.places.items
          (c.next_into.ensures.some c.loop-facts-test.true) (c.loop-facts.invariant other choice none before),
      c.in-Some.ensures,
    ))
    given.0 given.1 given.2.is_object))

pub loop-facts-preserved : goal.loop-facts-preserved
loop-facts-preserved c = λ other choice none before.
    let facts = facts_of c.args.heap.now in
    came_other (IsLoneClass facts) c.args.retained.now (IsGiven (IsChosenObject choice) other) (facts_of_table tables.Classes facts)
    (facts_left c.loop-facts.facts) (facts_left c.next_into.new.self) (value_of c.next_into.new.fact) c.loop-facts.places.items
    (c.next_into.ensures.some c.loop-facts-test.true) (c.loop-facts.invariant other choice none before) c.in_default.ensures

pub returns : goal.returns
returns c = λ other choice none before.
    let facts = facts_of c.args.heap.now in
    let Gives = IsLoneClass facts in
    let Before = IsGiven (IsChosenObject choice) other in
    let retained = c.args.retained.now in
    let table = facts_of_table tables.Classes facts in
    same_places retained (Among Gives retained Before table) (λ node. Before node ⊎ IsClassAlone facts node) c.loop-facts.places.items
    (λ node.
    let same = classes_of_table facts node in (
      λ among. elim among [ inl object ↦ inl object | inr given ↦ inr (same.0 given) ],
      λ is. elim is [ inl object ↦ inl object | inr alone ↦ inr (same.1 alone) ],
    ))
    (all_came Gives retained Before table (facts_left c.loop-facts.facts) c.loop-facts.places.items
    (c.next_into.ensures.none c.loop-facts-test.false).0 (c.loop-facts.invariant other choice none before))
