use Rattle.std.proofs.Common.{ℕ, List, length}
use Rattle.hprof_items.specs.FactValue.{FactValue}
use Rattle.hprof_rows.specs.declared.table.Table.TheVariants as tables
use Rattle.hprof_rows.specs.FactsLeft.{facts_left}
use Rattle.hprof_rows.specs.Tables.{facts_of_table}
use Rattle.hprof_heap.specs.HeapFacts.{facts_of}
use Rattle.hprof_heap.specs.Objects.{HasNoObject}
use Rattle.hprof_keeps.specs.Chosen.{IsClassAlone}
use Rattle.hprof_keeps.specs.Gathered.{ArePlacesOf, IsChosenObject, IsGiven, IsLoneClass}
use Rattle.hprof_keeps.specs.declared.choice.Choice.{Choice}
use Rattle.hprof_keeps.proofs.GivenPlaces.{Gathering}
use Rattle.hprof_keeps.proofs.chosen.push_classes.Given as goal

-- behind the objects of whichever choice
abbrev pub invariant-loop-facts : goal.invariant-loop-facts
invariant-loop-facts l = (facts : List FactValue) (choice : Choice)
    → ((node : ℕ) → IsClassAlone (facts_of l.heap) node → HasNoObject facts node)
    → ArePlacesOf l.retained (IsGiven (IsChosenObject choice) facts) l.fn.places.items
    → Gathering (IsLoneClass (facts_of l.heap)) l.retained (IsGiven (IsChosenObject choice) facts)
    (facts_of_table tables.Classes (facts_of l.heap)) (facts_left l.facts) l.places.items

abbrev pub decreases-loop-facts : goal.decreases-loop-facts
decreases-loop-facts l = length (facts_left l.facts)
