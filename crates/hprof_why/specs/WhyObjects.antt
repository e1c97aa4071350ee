-- The objects that the report `why` names, and those that it is read from.
use Rattle.std.specs.Prelude.{◌≡◌, ℕ, List, [], ◌∷◌, Contains, IsTrue}
use Rattle.hprof_values.specs.declared.ids.IdSize.{IdSize}
use Rattle.hprof_items.specs.FactValue.{FactValue}
use Rattle.hprof_heap.specs.declared.heap.Heap.{Heap}
use Rattle.hprof_heap.specs.HeapFacts.{facts_of, size_of}
use Rattle.hprof_histogram.specs.Chosen.{is_among}
use Rattle.hprof_small.specs.Small.{IsSmall}
use Rattle.hprof_words.specs.Words.{HasWords}
use Rattle.hprof_holders.specs.WhoObjects.{HasRootObjects, HasRootWords}
use Rattle.hprof_why.specs.declared.reached.Reached.{Reached}
use Rattle.hprof_why.specs.declared.reached.Reached.TheVariants as reached

-- the nodes of the path, none where there is none
abbrev pub path_nodes : Reached → List ℕ
path_nodes (reached.Strongly path) = path.nodes.items
path_nodes (reached.Weakly path) = path.nodes.items
path_nodes reached.Nowise = []

-- the list has the nodes of the path, and the objects of the threads of the roots of the first one
pub record HasPathObjects (facts : List FactValue) (list path : List ℕ) : Type 0 where
  pub each : (node : ℕ) → Contains path node → Contains list node
  pub threads : (first : ℕ) (rest : List ℕ) → path ≡ first ∷ rest → HasRootObjects facts list first

-- the list has all that the words for these are read from
pub record HasPathWords (ids : IdSize) (facts : List FactValue) (wanted path : List ℕ) : Type 0 where
  pub each : (node : ℕ) → Contains path node → HasWords ids facts wanted node
  pub threads : (first : ℕ) (rest : List ℕ) → path ≡ first ∷ rest → HasRootWords ids facts wanted first

-- the heap of all objects that the report `why` on the identifier, which is reached along that path, is read from, and of all other facts
pub record IsWhyHeap (ids : IdSize) (id : ℕ) (path : List ℕ) (all : List FactValue) (small : Heap) : Type 0 where
  pub size : size_of small ≡ ids
  pub wanted : List ℕ
  pub facts : IsSmall ids wanted all (facts_of small)
  pub own : IsTrue (is_among wanted id)
  pub has : HasPathWords ids all wanted path
