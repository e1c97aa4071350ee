-- What a gatherer holds, and what headers and facts do to it.
use Rattle.std.specs.Prelude.{◌≡◌, ◌≢◌, ◌||◌, Bool, true, false, not, min, List, [], ◌∷◌, ◌++◌, map, Option, Some, None, Result, Ok, Err}
use Rattle.std.specs.Prelude.{if◌then◌else◌}
use Rattle.std.specs.List.{AllByRecursion, flat_map}
use Rattle.hprof_items.specs.declared.header.Header.{Header}
use Rattle.hprof_values.specs.declared.ids.IdSize.{IdSize}
use Rattle.hprof_values.specs.declared.ids.IdSize.TheVariants.{Four, Eight}
use Rattle.hprof_items.specs.FactValue.{FactValue}
use Rattle.hprof_stream.specs.Run.{Run}
use Rattle.hprof_heap.specs.declared.gatherer.Gatherer.{Gatherer}
use Rattle.hprof_heap.specs.declared.heap.Heap.{Heap}
use Rattle.hprof_rows.specs.declared.key.Key.{Key}
use Rattle.hprof_tables.specs.declared.relation.Stated.{Stated}
use Rattle.hprof_tables.specs.declared.relation.Stated.TheVariants.{New, Same, Differs}
use Rattle.hprof_heap.specs.declared.standing.Refusal.{Refusal}
use Rattle.hprof_heap.specs.declared.standing.Refusal.TheVariants as refusals
use Rattle.hprof_heap.specs.declared.standing.Standing.{Standing}
use Rattle.hprof_heap.specs.declared.standing.Standing.TheVariants as standings
use Rattle.hprof_rows.specs.Key.{key_of, lesser_key}
use Rattle.hprof_rows.specs.Facts.{SameFacts}
use Rattle.hprof_rows.specs.Conflict.{IsConsistent, IsLeastConflict}
use Rattle.hprof_heap.specs.State.{IsLeastOf}
use Rattle.hprof_rows.specs.HeapValue.{HeapValue, IsHeap}
use Rattle.hprof_rows.specs.Stating.{IsNewAmong, StatesInto}
use Rattle.hprof_heap.specs.Heap.{heap_of}

-- the heap so far, if a part was begun; the size that was begun last; the least key that came with two contents;
-- whether two sizes were begun; whether a fault was answered
pub record Gathered : Type 0 where
  pub heap : Option HeapValue
  pub begun : Option IdSize
  pub conflict : Option Key
  pub two_sizes : Bool
  pub failed : Bool

abbrev pub lent_heap : Option Heap → Option HeapValue
lent_heap None = None
lent_heap (Some heap) = Some (heap_of heap)

-- what a gatherer shows
abbrev pub gathered : Gatherer → Gathered
gathered gatherer = record {
  heap = lent_heap gatherer.heap;
  begun = gatherer.begun;
  conflict = gatherer.conflict;
  two_sizes = gatherer.two_sizes;
  failed = gatherer.failed;
}

abbrev pub nothing_gathered : Gathered
nothing_gathered = record { heap = None; begun = None; conflict = None; two_sizes = false; failed = false }

-- ---- a header

abbrev pub same_size : IdSize → IdSize → Bool
same_size Four Four = true
same_size Four Eight = false
same_size Eight Four = false
same_size Eight Eight = true

-- the first header sets the size and the time; a later one of the same size keeps the lesser time; one of another
-- size marks two sizes for good
abbrev pub begun_heap : Option HeapValue → Header → HeapValue
begun_heap None header = record { ids = header.ids; millis = header.millis; facts = [] }
begun_heap (Some heap) header = if same_size heap.ids header.ids then record heap { millis = min heap.millis header.millis } else heap

abbrev pub has_other_size : Option HeapValue → Header → Bool
has_other_size None header = false
has_other_size (Some heap) header = not (same_size heap.ids header.ids)

pub record Begins (old : Gathered) (header : Header) (new : Gathered) : Type 0 where
  pub was_sound : old.failed ≡ false
  pub sound : new.failed ≡ false
  pub heap : new.heap ≡ Some (begun_heap old.heap header)
  pub begun : new.begun ≡ Some header.ids
  pub conflict : new.conflict ≡ old.conflict
  pub two_sizes : new.two_sizes ≡ (old.two_sizes || has_other_size old.heap header)

-- ---- a fact

-- a fact was given that is new to the heap, while one size was begun
abbrev pub LacksRow : Gathered → List FactValue → Type 0
LacksRow gathered [] = ⊥
LacksRow gathered (fact ∷ rest) = (gathered.two_sizes ≡ false) × ((heap : HeapValue) × (gathered.heap ≡ Some heap)
    × IsNewAmong heap.facts fact)

-- the mark of the least conflict, where there is one more
abbrev pub marked : Option Key → Option Key → Option Key
marked mark None = mark
marked None (Some key) = Some key
marked (Some least) (Some key) = Some (lesser_key least key)

-- the mark after a fact was stated
abbrev pub mark_after : Stated → Option Key → FactValue → Option Key
mark_after New mark fact = mark
mark_after Same mark fact = mark
mark_after Differs mark fact = marked mark (key_of fact)

-- what stating a fact does to a heap and its mark
abbrev pub TakesInto : HeapValue → Option Key → FactValue → Stated → HeapValue → Option Key → Type 0
TakesInto heap mark fact stated new after = StatesInto heap fact stated new × (after ≡ mark_after stated mark fact)

-- with two sizes begun nothing changes
abbrev pub TakesHeap : Bool → Option HeapValue → Option Key → FactValue → Option HeapValue → Option Key → Type 0
TakesHeap true old mark fact new after = (new ≡ old) × (after ≡ mark)
TakesHeap false None mark fact new after = ⊥
TakesHeap false (Some heap) mark fact None after = ⊥
TakesHeap false (Some heap) mark fact (Some new) after = (stated : Stated) × TakesInto heap mark fact stated new after

pub record Takes (old : Gathered) (fact : FactValue) (new : Gathered) : Type 0 where
  pub was_sound : old.failed ≡ false
  pub sound : new.failed ≡ false
  pub begun : new.begun ≡ old.begun
  pub two_sizes : new.two_sizes ≡ old.two_sizes
  pub taken : TakesHeap old.two_sizes old.heap old.conflict fact new.heap new.conflict

-- what stating a fact did to the heap and the mark, while one size was begun
pub record IsStated (old : Gathered) (fact : FactValue) (stated : Stated) (new : Gathered) : Type 0 where
  pub one_size : old.two_sizes ≡ false
  pub before : HeapValue
  pub after : HeapValue
  pub had : old.heap ≡ Some before
  pub has : new.heap ≡ Some after
  pub states : StatesInto before fact stated after
  pub mark : new.conflict ≡ mark_after stated old.conflict fact

-- what a fact came to: nothing where two sizes were begun, else it was stated
abbrev pub TellsStated : Gathered → FactValue → Option Stated → Gathered → Type 0
TellsStated old fact None new = old.two_sizes ≡ true
TellsStated old fact (Some stated) new = IsStated old fact stated new

-- ---- the answers

-- the heap in what was answered, as a value
abbrev pub seen_in : {F : Type 0} → (F → HeapValue) → Result F Refusal → Result HeapValue Refusal
seen_in heap_in (Ok found) = Ok (heap_in found)
seen_in heap_in (Err refusal) = Err refusal

-- the heap that was answered, as a value
abbrev pub seen_heap : Result Heap Refusal → Result HeapValue Refusal
seen_heap = seen_in heap_of

abbrev pub unconflicted : Option HeapValue → Option Key → Bool → Result HeapValue Refusal
unconflicted None mark two_sizes = Err refusals.NoParts
unconflicted (Some heap) mark true = Err refusals.IdSizes
unconflicted (Some heap) (Some key) false = Err (refusals.Conflict key)
unconflicted (Some heap) None false = Ok heap

-- a fault comes first, then no parts, then two sizes, then a conflict
abbrev pub answer_of : Gathered → Result HeapValue Refusal
answer_of g = if g.failed then Err refusals.Failed else unconflicted g.heap g.conflict g.two_sizes

abbrev pub standing_of_answer : Result HeapValue Refusal → Standing
standing_of_answer (Ok heap) = standings.Clean
standing_of_answer (Err refusals.NoParts) = standings.Empty
standing_of_answer (Err refusals.IdSizes) = standings.InConflict
standing_of_answer (Err (refusals.Conflict key)) = standings.InConflict
standing_of_answer (Err refusals.Failed) = standings.Failed

-- ---- whole parts

-- what one part was given: its header and its facts
pub record Given : Type 0 where
  pub header : Header
  pub facts : List FactValue

-- the gatherer has taken these parts, one after the other
abbrev pub Gathers : Gathered → List Given → Gathered → Type 0
Gathers old [] new = old ≡ new
Gathers old (part ∷ parts) new = (mid : Gathered) × Run Begins Takes old (Some part.header) part.facts mid × Gathers mid parts new

abbrev pub all_given : List Given → List FactValue
all_given parts = flat_map (λ part. part.facts) parts

-- whole parts, and the header of one more where it has come, have one size
abbrev pub HaveOneSize : List Given → Option Header → Type 0
HaveOneSize parts None = (ids : IdSize) × AllByRecursion (λ part. part.header.ids ≡ ids) parts
HaveOneSize parts (Some header) = AllByRecursion (λ part. part.header.ids ≡ header.ids) parts

-- behind whole parts, and the header and facts of one more, an item states a fact that is new among all of theirs, and
-- they have one size
abbrev pub IsNewBehind : List Given → Option Header → List FactValue → List FactValue → Type 0
IsNewBehind parts header before [] = ⊥
IsNewBehind parts header before (fact ∷ rest) = HaveOneSize parts header × IsNewAmong (all_given parts ++ before) fact

-- what the answer says of the parts that were given: the heap of exactly their facts, or the least conflict
abbrev pub Tells : List Given → Result HeapValue Refusal → Type 0
Tells parts (Ok heap) =
    AllByRecursion (λ part. part.header.ids ≡ heap.ids) parts × IsLeastOf (map (λ part. part.header.millis) parts) heap.millis
    × IsConsistent (all_given parts) × SameFacts heap.facts (all_given parts) × IsHeap heap
Tells parts (Err refusals.NoParts) = parts ≡ []
Tells parts (Err refusals.IdSizes) = (ids : IdSize) → AllByRecursion (λ part. part.header.ids ≡ ids) parts → ⊥
Tells parts (Err (refusals.Conflict key)) =
    ((ids : IdSize) × AllByRecursion (λ part. part.header.ids ≡ ids) parts) × (parts ≢ []) × IsLeastConflict (all_given parts) key
Tells parts (Err refusals.Failed) = ⊥
