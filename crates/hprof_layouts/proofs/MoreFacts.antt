-- What stays with more facts.
use Rattle.std.proofs.Common.{ℕ, List, [], ◌∷◌}
use Rattle.hprof_items.specs.FactValue.{FactValue}
use Rattle.hprof_rows.specs.Facts.{Has}
use Rattle.hprof_heap.specs.Classes.{ClassValue, fact_of_class}
use Rattle.hprof_layouts.specs.declared.slot.Slot.{Slot}
use Rattle.hprof_layouts.specs.Chain.{IsChain}
use Rattle.hprof_layouts.specs.Layout.{IsKnown, IsCyclic}

module _ (facts more : List FactValue) (all : (fact : FactValue) → Has facts fact → Has more fact) where
  pub chain_stays : (class end : ℕ) (dumps : List ClassValue) → IsChain facts class dumps end → IsChain more class dumps end
  chain_stays class end [] chain = chain
  chain_stays class end (dump ∷ dumps) chain =
      (chain.0, chain.1, all (fact_of_class dump) chain.2, chain_stays dump.parent end dumps chain.3)

  pub known_stays : (class : ℕ) (slots : List Slot) → IsKnown facts class slots → IsKnown more class slots
  known_stays class slots is = record { dumps = is.dumps; chain = chain_stays class 0 is.dumps is.chain; slots_are = is.slots_are }

  pub cyclic_stays : (class : ℕ) → IsCyclic facts class → IsCyclic more class
  cyclic_stays class is = record {
    dumps = is.dumps;
    ring = is.ring;
    again = is.again;
    chain = chain_stays class is.again is.dumps is.chain;
    turns = chain_stays is.again is.again is.ring is.turns;
    not_empty = is.not_empty;
  }
