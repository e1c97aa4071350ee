-- What the report `keeps` tells of an identifier, by places in the tree of dominators; no public contract speaks of it.
use Rattle.std.specs.Prelude.{◌≡◌, ◌≢◌, ◌<◌, ℕ, All, Contains, List, [], ◌++◌, None, Some, codes, map}
use Rattle.hprof_values.specs.declared.ids.IdSize.{IdSize}
use Rattle.hprof_items.specs.FactValue.{FactValue}
use Rattle.hprof_heap.specs.declared.heap.Heap.{Heap}
use Rattle.hprof_heap.specs.HeapFacts.{facts_of, size_of}
use Rattle.hprof_reach.specs.Reaching.{IsNode}
use Rattle.hprof_small.specs.Small.{IsSmall}
use Rattle.hprof_lines.specs.Line.{nothing_line}
use Rattle.hprof_describe.specs.Findings.{Findings}
use Rattle.hprof_retained.specs.Retained.{IsHeld, IsSumOver}
use Rattle.hprof_retained.specs.Tree.{IsTreeOf, count_of, node_at, total_of}
use Rattle.hprof_retained.specs.Weakly.{IsWeaklyHeld}
use Rattle.hprof_retained.specs.declared.retained.Retained.{Retained}
use Rattle.hprof_words.specs.Words.{HasWords}
use Rattle.hprof_keeps.specs.KeepsText.{IsNotReached, above_lines, child_lines, total_line, weakly_line}
use Rattle.hprof_keeps.specs.Order.{AreChildren, AreDominators, retained_in}
use Rattle.hprof_keeps.specs.WeakSum.{sum_of}
use Rattle.hprof_keeps.specs.declared.kept.Kept.{Kept}
use Rattle.hprof_keeps.specs.declared.kept.Kept.TheVariants as kept
use Rattle.hprof_keeps.specs.declared.kept.KeptTree.{KeptTree}

-- ---- places

abbrev pub ArePlaces : Retained → List ℕ → Type 0
ArePlaces retained places = All (λ place. (0 < place) × (place < count_of retained)) places

-- the nodes that stand there
abbrev pub nodes_at : Retained → List ℕ → List ℕ
nodes_at retained places = map (node_at retained) places

-- those of the dominators that the report names
abbrev pub above_places : Kept → List ℕ
above_places (kept.Held above below) = above.items
above_places other = []

-- those of the nodes right below
abbrev pub below_places : Kept → List ℕ
below_places (kept.Roots weakly below) = below.items
below_places (kept.Held above below) = below.items
below_places other = []

abbrev pub HasPlaces : Retained → Kept → Type 0
HasPlaces retained told = ArePlaces retained (above_places told) × ArePlaces retained (below_places told)

-- ---- what is told

-- that is so of the identifier
abbrev pub IsKept : IdSize → List FactValue → Retained → ℕ → Kept → Type 0
IsKept ids facts retained id (kept.Roots weakly below) = (id ≡ 0) × IsSumOver ids facts (IsWeaklyHeld ids facts) (sum_of weakly)
    × AreChildren ids facts (retained_in retained) None (nodes_at retained below.items)
IsKept ids facts retained id (kept.Held above below) = IsHeld ids facts id × AreDominators ids facts id (nodes_at retained above.items)
    × AreChildren ids facts (retained_in retained) (Some id) (nodes_at retained below.items)
IsKept ids facts retained id kept.Weakly = IsNode facts id × IsWeaklyHeld ids facts id
IsKept ids facts retained id kept.Nowise = IsNode facts id × IsNotReached ids facts id
IsKept ids facts retained id kept.Nothing = (id ≢ 0) × ¬ (IsNode facts id)

-- the tree, and what is told from it
abbrev pub IsKeptTree : IdSize → List FactValue → ℕ → KeptTree → Type 0
IsKeptTree ids facts id made = IsTreeOf ids facts made.retained × IsKept ids facts made.retained id made.kept

abbrev pub kept_text : Findings → Retained → ℕ → Kept → List ℕ
kept_text found retained id (kept.Roots weakly below) = total_line (total_of retained)
    ++ (weakly_line (sum_of weakly) ++ child_lines found (retained_in retained) (nodes_at retained below.items))
kept_text found retained id (kept.Held above below) = total_line (total_of retained)
    ++ (above_lines found (retained_in retained) (nodes_at retained above.items)
    ++ child_lines found (retained_in retained) (nodes_at retained below.items))
kept_text found retained id kept.Weakly = codes "only by weak references\n"
kept_text found retained id kept.Nowise = codes "not reached\n"
kept_text found retained id kept.Nothing = nothing_line id

-- ---- from which objects

-- the heap of all objects that the words for these nodes are read from, and of all other facts
pub record IsNamedHeap (ids : IdSize) (some more : List ℕ) (all : List FactValue) (small : Heap) : Type 0 where
  pub size : size_of small ≡ ids
  pub wanted : List ℕ
  pub facts : IsSmall ids wanted all (facts_of small)
  pub some_words : (node : ℕ) → Contains some node → HasWords ids all wanted node
  pub more_words : (node : ℕ) → Contains more node → HasWords ids all wanted node
