-- The objects that the report `who` names, and those that it is read from.
use Rattle.std.specs.Prelude.{◌≡◌, ◌⊎◌, ℕ, List, Some, Contains, IsTrue}
use Rattle.hprof_values.specs.declared.ids.IdSize.{IdSize}
use Rattle.hprof_values.specs.declared.root.Root.{Root}
use Rattle.hprof_items.specs.FactValue.{FactValue, Rooted}
use Rattle.hprof_rows.specs.Facts.{Has}
use Rattle.hprof_heap.specs.declared.heap.Heap.{Heap}
use Rattle.hprof_heap.specs.HeapFacts.{facts_of, size_of}
use Rattle.hprof_histogram.specs.Chosen.{is_among}
use Rattle.hprof_edges.specs.declared.edge.Edge.{Edge}
use Rattle.hprof_edges.specs.Edges.{IsEdge}
use Rattle.hprof_reach.specs.Reaching.{root_id}
use Rattle.hprof_small.specs.Small.{IsSmall}
use Rattle.hprof_threads.specs.Serials.{thread_of_root}
use Rattle.hprof_threads.specs.Threads.{IsThreadObject}
use Rattle.hprof_words.specs.Words.{HasWords}

-- the list has the object of the root's thread, where 0 is none, if the root is of a thread
abbrev pub HasThreadOf : List FactValue → List ℕ → Root → Type 0
HasThreadOf facts nodes root =
    (serial object : ℕ) → thread_of_root root ≡ Some serial → IsThreadObject facts serial object → Contains nodes object

-- one of the roots of the identifier is of the thread
pub record IsThreadOfRoots (facts : List FactValue) (id serial : ℕ) : Type 0 where
  pub root : Root
  pub has : Has facts (Rooted root)
  pub of : root_id root ≡ id
  pub thread : thread_of_root root ≡ Some serial

-- the list has the object of each of these threads, where 0 is none
abbrev pub HasRootObjects : List FactValue → List ℕ → ℕ → Type 0
HasRootObjects facts nodes id =
    (serial object : ℕ) → IsThreadOfRoots facts id serial → IsThreadObject facts serial object → Contains nodes object

-- it has all that the words for these objects are read from
abbrev pub HasRootWords : IdSize → List FactValue → List ℕ → ℕ → Type 0
HasRootWords ids facts wanted id =
    (serial object : ℕ) → IsThreadOfRoots facts id serial → IsThreadObject facts serial object
    → (object ≡ 0) ⊎ HasWords ids facts wanted object

-- the list has the identifier, and all that the words for each object that refers to it and for the threads of its roots are read from
pub record HasWhoWords (ids : IdSize) (facts : List FactValue) (wanted : List ℕ) (id : ℕ) : Type 0 where
  pub own : IsTrue (is_among wanted id)
  pub froms : (edge : Edge) → IsEdge ids facts edge → edge.to ≡ id → HasWords ids facts wanted edge.from
  pub threads : HasRootWords ids facts wanted id

-- the heap of all objects that the report `who` on the identifier is read from, and of all other facts
pub record IsWhoHeap (ids : IdSize) (id : ℕ) (all : List FactValue) (small : Heap) : Type 0 where
  pub size : size_of small ≡ ids
  pub wanted : List ℕ
  pub facts : IsSmall ids wanted all (facts_of small)
  pub has : HasWhoWords ids all wanted id
