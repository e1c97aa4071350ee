-- What a live heap is.
use Rattle.std.specs.Prelude.{◌≡◌, ◌||◌, ℕ, Bool, true, false, List, [], Option, Some, None, Result, Ok, Err, ⊤}
use Rattle.std.proofs.Common.{ap, ◌∙◌}
use Rattle.std.specs.Borrow.{Bor, MutBor, Fml}
use Rattle.std.specs.Io.BufRead.{Rests}
use Rattle.hprof_values.specs.declared.ids.IdSize.{IdSize}
use Rattle.hprof_items.specs.declared.header.Header.{Header}
use Rattle.hprof_items.specs.FactValue.{FactValue}
use Rattle.hprof_rows.specs.HeapValue.{HeapValue}
use Rattle.hprof_stream.specs.declared.sink.SinkFault.{SinkFault}
use Rattle.hprof_stream.specs.declared.sink.SinkFault.TheVariants.{OutOfMemory}
use Rattle.hprof_heap.specs.declared.heap.Heap.{Heap}
use Rattle.hprof_heap.specs.declared.standing.Refusal.{Refusal}
use Rattle.hprof_heap.specs.declared.standing.Refusal.TheVariants as refusals
use Rattle.hprof_heap.specs.Gathering.{Gathered, Begins, LacksRow, Takes, answer_of, gathered}
use Rattle.hprof_heap.specs.HeapFacts.{facts_of, size_of}
use Rattle.hprof_edges.specs.declared.edge.Edge.{Edge}
use Rattle.hprof_graph.specs.declared.derived.Derived.{Derived}
use Rattle.hprof_graph.specs.declared.live.Live.{Live}
use Rattle.hprof_graph.specs.declared.live.Live.TheVariants as lives
use Rattle.hprof_graph.specs.declared.live_heap.LiveHeap.{LiveHeap}
use Rattle.hprof_graph.specs.contracts.live_heap.LiveHeap.{the_row}
use Rattle.hprof_graph.specs.Derived.{IsDerived, keeps_of}

-- what it has gathered so far; a fault is its own, or its gatherer's
abbrev pub seen_by : LiveHeap → Gathered
seen_by live = record (gathered live.gatherer) { failed = live.failed || (gathered live.gatherer).failed }

-- what its gatherer comes to, or a fault
unfoldable pub outcome_of : LiveHeap → Result HeapValue Refusal
outcome_of live = answer_of (seen_by live)

-- ---- answers

-- what is answered of the facts so far; before any part of no facts
abbrev pub IsAnswer : {X : Type 0} → (IdSize → List FactValue → X → Type 0) → Result HeapValue Refusal → Live X → Type 0
IsAnswer P (Ok heap) (lives.Is answer) = P heap.ids heap.facts answer
IsAnswer P (Err refusals.NoParts) (lives.Is answer) = (ids : IdSize) → P ids [] answer
IsAnswer P (Err refusals.IdSizes) lives.InConflict = ⊤
IsAnswer P (Err (refusals.Conflict key)) lives.InConflict = ⊤
IsAnswer P (Err refusals.Failed) lives.Failed = ⊤
IsAnswer P outcome answer = ⊥

-- which of the three comes, whatever is answered: a fault comes first, then two sizes or two contents of a key
abbrev pub IsKindOf : {X : Type 0} → Result HeapValue Refusal → Live X → Type 0
IsKindOf (Ok heap) (lives.Is answer) = ⊤
IsKindOf (Err refusals.NoParts) (lives.Is answer) = ⊤
IsKindOf (Err refusals.IdSizes) lives.InConflict = ⊤
IsKindOf (Err (refusals.Conflict key)) lives.InConflict = ⊤
IsKindOf (Err refusals.Failed) lives.Failed = ⊤
IsKindOf outcome answer = ⊥

-- the heap so far is lent; before any part there is none
abbrev pub LendsHeap : Result HeapValue Refusal → Live (Option (Bor Heap)) → Type 0
LendsHeap (Ok value) (lives.Is (Some heap)) = (size_of heap.now ≡ value.ids) × (facts_of heap.now ≡ value.facts)
LendsHeap (Err refusals.NoParts) (lives.Is None) = ⊤
LendsHeap (Err refusals.IdSizes) lives.InConflict = ⊤
LendsHeap (Err (refusals.Conflict key)) lives.InConflict = ⊤
LendsHeap (Err refusals.Failed) lives.Failed = ⊤
LendsHeap outcome answer = ⊥

-- ---- what stands

-- what is derived is of the facts so far; of facts that do not agree, and after a fault, nothing is said
abbrev pub IsDerivedOf : Result HeapValue Refusal → Derived → Type 0
IsDerivedOf (Ok heap) derived = IsDerived heap.ids heap.facts derived
IsDerivedOf (Err refusals.NoParts) derived = (ids : IdSize) → IsDerived ids [] derived
IsDerivedOf (Err refusals.IdSizes) derived = ⊤
IsDerivedOf (Err (refusals.Conflict key)) derived = ⊤
IsDerivedOf (Err refusals.Failed) derived = ⊤

pub record IsCurrent (live : LiveHeap) : Type 0 where
  pub derived : IsDerivedOf (outcome_of live) live.derived

-- the edges to that identifier are kept
abbrev pub KeepsTo : LiveHeap → ℕ → Type 0
KeepsTo live id = (edge : Edge) → edge.to ≡ id → keeps_of live.derived edge ≡ true

-- no others are kept
abbrev pub KeepsOnly : LiveHeap → ℕ → Type 0
KeepsOnly live id = (edge : Edge) → keeps_of live.derived edge ≡ true → edge.to ≡ id

-- it is current, and watches the identifier
pub record Watches (live : LiveHeap) (id : ℕ) : Type 0 where
  pub current : IsCurrent live
  pub keeps : KeepsTo live id

-- it goes on to be current, and to keep what it keeps
pub record StaysCurrent (old new : LiveHeap) : Type 0 where
  pub current : IsCurrent old → IsCurrent new
  pub keeps : keeps_of new.derived ≡ keeps_of old.derived

-- so what is watched stays watched
pub watches_on : (old new : LiveHeap) → StaysCurrent old new → (id : ℕ) → Watches old id → Watches new id
watches_on old new goes_on id watches = record {
  current = goes_on.current watches.current;
  keeps = λ edge to. ap (λ (keeps : Edge → Bool). keeps edge) goes_on.keeps ∙ watches.keeps edge to;
}

-- nothing that is told of it changes
pub record StaysAsItIs (old new : LiveHeap) : Type 0 where
  pub seen : seen_by new ≡ seen_by old
  pub goes_on : StaysCurrent old new

abbrev pub RestsAsItIs : MutBor LiveHeap → Fml
RestsAsItIs live = Rests the_row live (StaysAsItIs live.now)

-- ---- as a sink

pub record BeginsLive (old : LiveHeap) (header : Header) (new : LiveHeap) : Type 0 where
  pub begins : Begins (seen_by old) header (seen_by new)
  pub goes_on : StaysCurrent old new

pub record TakesLive (old : LiveHeap) (fact : FactValue) (new : LiveHeap) : Type 0 where
  pub takes : Takes (seen_by old) fact (seen_by new)
  pub goes_on : StaysCurrent old new

-- one that has not failed answers no fault but want of memory, and that only for a fact that is new to its heap
abbrev pub RefusesLive : LiveHeap → List FactValue → SinkFault → LiveHeap → Type 0
RefusesLive old given fault new = (seen_by old).failed ≡ false → (fault ≡ OutOfMemory) × LacksRow (seen_by old) given
