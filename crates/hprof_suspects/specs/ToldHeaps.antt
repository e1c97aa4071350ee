-- The heap of the objects that the words of the report `suspects` are read from.
use Rattle.std.specs.Prelude.{◌≡◌, ℕ, List, Contains}
use Rattle.std.specs.List.{flat_map}
use Rattle.hprof_values.specs.declared.ids.IdSize.{IdSize}
use Rattle.hprof_items.specs.FactValue.{FactValue}
use Rattle.hprof_heap.specs.declared.heap.Heap.{Heap}
use Rattle.hprof_heap.specs.HeapFacts.{facts_of, size_of}
use Rattle.hprof_small.specs.Small.{IsSmall}
use Rattle.hprof_words.specs.Words.{HasWords}
use Rattle.hprof_retained.specs.declared.retained.Retained.{Retained}
use Rattle.hprof_suspects.specs.Told.{IsFoundOut, nodes_of}
use Rattle.hprof_suspects.specs.declared.found_out.FoundOut.{FoundOut}
use Rattle.hprof_suspects.specs.declared.told.Told.{Told}

-- the nodes of all chains
abbrev pub named_nodes : Retained → List Told → List ℕ
named_nodes retained told = flat_map (nodes_of retained) told

-- the heap has all facts but objects, and of these those that the words for some nodes are read from
pub record IsToldHeap (ids : IdSize) (nodes : List ℕ) (all : List FactValue) (small : Heap) : Type 0 where
  pub size : size_of small ≡ ids
  pub wanted : List ℕ
  pub facts : IsSmall ids wanted all (facts_of small)
  pub has : (node : ℕ) → Contains nodes node → HasWords ids all wanted node

-- all that was found is so
abbrev pub AreFoundOut : IdSize → List FactValue → FoundOut → Type 0
AreFoundOut ids facts found = IsFoundOut ids facts found.retained found.labels found.weakly found.told.items
