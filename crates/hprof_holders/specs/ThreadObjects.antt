-- The objects that the report `threads` names, and those that it is read from.
use Rattle.std.specs.Prelude.{◌≡◌, ◌⊎◌, ℕ, List, Contains}
use Rattle.hprof_values.specs.declared.ids.IdSize.{IdSize}
use Rattle.hprof_items.specs.FactValue.{FactValue}
use Rattle.hprof_heap.specs.declared.heap.Heap.{Heap}
use Rattle.hprof_heap.specs.HeapFacts.{facts_of, size_of}
use Rattle.hprof_small.specs.Small.{IsSmall}
use Rattle.hprof_threads.specs.declared.held.Held.{Held}
use Rattle.hprof_threads.specs.Held.{IsHeld}
use Rattle.hprof_threads.specs.Serials.{IsThread}
use Rattle.hprof_threads.specs.Threads.{IsThreadObject}
use Rattle.hprof_words.specs.Words.{HasWords}

-- the list has the object of the thread, where 0 is none, and each object that the thread holds
pub record HasThreadObjects (facts : List FactValue) (nodes : List ℕ) (serial : ℕ) : Type 0 where
  pub own : (object : ℕ) → IsThreadObject facts serial object → Contains nodes object
  pub held : (held : Held) → IsHeld facts held → held.thread ≡ serial → Contains nodes held.object

-- it has those of all threads
abbrev pub HasAllThreadObjects : List FactValue → List ℕ → Type 0
HasAllThreadObjects facts nodes = (serial : ℕ) → IsThread facts serial → HasThreadObjects facts nodes serial

-- the list has all that the words for the object of the thread, if it has one, and for each object that it holds are read from
pub record HasThreadWords (ids : IdSize) (facts : List FactValue) (wanted : List ℕ) (serial : ℕ) : Type 0 where
  pub own : (object : ℕ) → IsThreadObject facts serial object → (object ≡ 0) ⊎ HasWords ids facts wanted object
  pub held : (held : Held) → IsHeld facts held → held.thread ≡ serial → HasWords ids facts wanted held.object

-- it has all that of each thread
abbrev pub HasAllThreadWords : IdSize → List FactValue → List ℕ → Type 0
HasAllThreadWords ids facts wanted = (serial : ℕ) → IsThread facts serial → HasThreadWords ids facts wanted serial

-- the heap of all objects that the report `threads` is read from, and of all other facts
pub record IsThreadsHeap (ids : IdSize) (all : List FactValue) (small : Heap) : Type 0 where
  pub size : size_of small ≡ ids
  pub wanted : List ℕ
  pub facts : IsSmall ids wanted all (facts_of small)
  pub has : HasAllThreadWords ids all wanted
