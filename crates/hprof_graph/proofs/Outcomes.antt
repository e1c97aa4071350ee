-- What a live heap comes to, as headers and facts are given.
use Rattle.std.specs.Prelude.{◌≢◌, IfOk}
use Rattle.std.specs.Option.{option_map}
use Rattle.std.specs.Result.{result_ok}
use Rattle.std.proofs.Common.{◌≡◌, Bool, true, false, not, cond, min, ◌||◌, List, [], Option, Some, None, Result, Ok, Err, Bor, refl, sym}
use Rattle.std.proofs.Common.{ap, subst}
use Rattle.hprof_values.specs.declared.ids.IdSize.{IdSize}
use Rattle.hprof_items.specs.declared.header.Header.{Header}
use Rattle.hprof_items.specs.FactValue.{FactValue}
use Rattle.hprof_rows.specs.declared.key.Key.{Key}
use Rattle.hprof_rows.specs.HeapValue.{HeapValue}
use Rattle.hprof_rows.specs.Key.{key_of}
use Rattle.hprof_rows.specs.Stating.{Adds, StatesInto}
use Rattle.hprof_rows.proofs.Order.{order_agrees}
use Rattle.hprof_tables.specs.declared.relation.Stated.{Stated}
use Rattle.hprof_tables.specs.declared.relation.Stated.TheVariants.{New, Same, Differs}
use Rattle.hprof_heap.specs.declared.heap.Heap.{Heap}
use Rattle.hprof_heap.specs.declared.standing.Refusal.{Refusal}
use Rattle.hprof_heap.specs.declared.standing.Refusal.TheVariants as refusals
use Rattle.hprof_heap.specs.declared.standing.Standing.TheVariants as standings
use Rattle.hprof_heap.specs.Gathering.{Begins, TellsStated, Gathered, IsStated, Takes, TakesHeap, answer_of, begun_heap, gathered}
use Rattle.hprof_heap.specs.Gathering.{has_other_size, mark_after, marked, same_size}
use Rattle.hprof_heap.specs.Gathering.{standing_of_answer, unconflicted}
use Rattle.hprof_heap.specs.Heap.{heap_of}
use Rattle.hprof_heap.specs.HeapFacts.{facts_of, size_of}
use Rattle.hprof_graph.specs.declared.derived.Derived.{Derived}
use Rattle.hprof_graph.specs.declared.live.Live.{Live}
use Rattle.hprof_graph.specs.declared.live.Live.TheVariants as lives
use Rattle.hprof_graph.specs.declared.live_heap.LiveHeap.{LiveHeap}
use Rattle.hprof_graph.specs.Derived.{AddsFact, IsDerived, keeps_of}
use Rattle.hprof_graph.specs.LiveHeap.{BeginsLive, IsAnswer, IsCurrent, IsDerivedOf, IsKindOf, LendsHeap, TakesLive}
use Rattle.hprof_graph.specs.LiveHeap.{outcome_of, seen_by}
use Rattle.hprof_graph.specs.Mapped.{MapsTo}

-- ---- a fault

module _ (live : LiveHeap) where
  abbrev seen_where : Bool → Gathered
  seen_where failed = record (gathered live.gatherer) { failed = failed || (gathered live.gatherer).failed }

  pub failed_outcome : live.failed ≡ true → outcome_of live ≡ Err refusals.Failed
  unfolding outcome_of
  failed_outcome e = ap (λ (t : Bool). answer_of (seen_where t)) e

  pub sound_seen : live.failed ≡ false → seen_by live ≡ gathered live.gatherer
  sound_seen e = ap seen_where e

  pub sound_outcome : live.failed ≡ false → outcome_of live ≡ answer_of (gathered live.gatherer)
  unfolding outcome_of
  sound_outcome e = ap (λ (t : Bool). answer_of (seen_where t)) e

-- ---- the heap that is lent

pub failed_lends : (outcome : Result HeapValue Refusal) → standings.Failed ≡ standing_of_answer outcome → LendsHeap outcome lives.Failed
failed_lends (Ok heap) e = absurd cc
failed_lends (Err refusals.NoParts) e = absurd cc
failed_lends (Err refusals.IdSizes) e = absurd cc
failed_lends (Err (refusals.Conflict key)) e = absurd cc
failed_lends (Err refusals.Failed) e = tt

pub conflict_lends : (outcome : Result HeapValue Refusal) → standings.InConflict ≡ standing_of_answer outcome
    → LendsHeap outcome lives.InConflict
conflict_lends (Ok heap) e = absurd cc
conflict_lends (Err refusals.NoParts) e = absurd cc
conflict_lends (Err refusals.IdSizes) e = tt
conflict_lends (Err (refusals.Conflict key)) e = tt
conflict_lends (Err refusals.Failed) e = absurd cc

pub nothing_lends : (outcome : Result HeapValue Refusal) → standings.Empty ≡ standing_of_answer outcome → LendsHeap outcome (lives.Is None)
nothing_lends (Ok heap) e = absurd cc
nothing_lends (Err refusals.NoParts) e = tt
nothing_lends (Err refusals.IdSizes) e = absurd cc
nothing_lends (Err (refusals.Conflict key)) e = absurd cc
nothing_lends (Err refusals.Failed) e = absurd cc

heap_lent : (value : HeapValue) (lent : Option (Bor Heap)) → option_map (λ heap. heap_of heap.now) lent ≡ Some value
    → LendsHeap (Ok value) (lives.Is lent)
unfolding size_of facts_of
heap_lent value None e = absurd cc
heap_lent value (Some heap) e =
    let same : heap_of heap.now ≡ value = cc in
    (ap (λ (h : HeapValue). h.ids) same, ap (λ (h : HeapValue). h.facts) same)

pub clean_lends : (outcome : Result HeapValue Refusal) (lent : Option (Bor Heap)) → standings.Clean ≡ standing_of_answer outcome
    → option_map (λ heap. heap_of heap.now) lent ≡ result_ok outcome → LendsHeap outcome (lives.Is lent)
clean_lends (Ok value) lent e lends = heap_lent value lent lends
clean_lends (Err refusals.NoParts) lent e lends = absurd cc
clean_lends (Err refusals.IdSizes) lent e lends = absurd cc
clean_lends (Err (refusals.Conflict key)) lent e lends = absurd cc
clean_lends (Err refusals.Failed) lent e lends = absurd cc

-- the heap that is lent is that of the answer
pub record IsLent (outcome : Result HeapValue Refusal) (heap : Heap) : Type 0 where
  pub value : HeapValue
  pub is : outcome ≡ Ok value
  pub ids : size_of heap ≡ value.ids
  pub facts : facts_of heap ≡ value.facts

pub is_lent : (outcome : Result HeapValue Refusal) (heap : Heap) → Some (heap_of heap) ≡ result_ok outcome → IsLent outcome heap
unfolding size_of facts_of
is_lent (Ok value) heap e =
    let same : heap_of heap ≡ value = cc in
    record { value = value; is = refl; ids = ap (λ (h : HeapValue). h.ids) same; facts = ap (λ (h : HeapValue). h.facts) same }
is_lent (Err refusal) heap e = absurd cc

-- ---- answers

-- what a function gives of the heap that is lent is answered of the facts so far
module _ {X : Type 0} (P : IdSize → List FactValue → X → Type 0) (gives : Option (Bor Heap) → X → Type 0)
    (some : (heap : Bor Heap) (x : X) → gives (Some heap) x → P (size_of heap.now) (facts_of heap.now) x)
    (none : (x : X) → gives None x → (ids : IdSize) → P ids [] x) where
  pub answer_mapped : (outcome : Result HeapValue Refusal) (lent : Live (Option (Bor Heap))) (answer : Live X) → LendsHeap outcome lent
      → MapsTo gives lent answer → IsAnswer P outcome answer
  answer_mapped (Ok value) (lives.Is (Some heap)) (lives.Is x) lends maps =
      subst (λ (ids : IdSize). P ids value.facts x) lends.0
      (subst (λ (facts : List FactValue). P (size_of heap.now) facts x) lends.1 (some heap x maps))
  answer_mapped (Ok value) (lives.Is (Some heap)) lives.InConflict lends maps = maps
  answer_mapped (Ok value) (lives.Is (Some heap)) lives.Failed lends maps = maps
  answer_mapped (Ok value) (lives.Is None) answer lends maps = absurd lends
  answer_mapped (Ok value) lives.InConflict answer lends maps = absurd lends
  answer_mapped (Ok value) lives.Failed answer lends maps = absurd lends
  answer_mapped (Err refusals.NoParts) (lives.Is None) (lives.Is x) lends maps = none x maps
  answer_mapped (Err refusals.NoParts) (lives.Is None) lives.InConflict lends maps = maps
  answer_mapped (Err refusals.NoParts) (lives.Is None) lives.Failed lends maps = maps
  answer_mapped (Err refusals.NoParts) (lives.Is (Some heap)) answer lends maps = absurd lends
  answer_mapped (Err refusals.NoParts) lives.InConflict answer lends maps = absurd lends
  answer_mapped (Err refusals.NoParts) lives.Failed answer lends maps = absurd lends
  answer_mapped (Err refusals.IdSizes) (lives.Is lent) answer lends maps = absurd lends
  answer_mapped (Err refusals.IdSizes) lives.InConflict (lives.Is x) lends maps = maps
  answer_mapped (Err refusals.IdSizes) lives.InConflict lives.InConflict lends maps = tt
  answer_mapped (Err refusals.IdSizes) lives.InConflict lives.Failed lends maps = maps
  answer_mapped (Err refusals.IdSizes) lives.Failed answer lends maps = absurd lends
  answer_mapped (Err (refusals.Conflict key)) (lives.Is lent) answer lends maps = absurd lends
  answer_mapped (Err (refusals.Conflict key)) lives.InConflict (lives.Is x) lends maps = maps
  answer_mapped (Err (refusals.Conflict key)) lives.InConflict lives.InConflict lends maps = tt
  answer_mapped (Err (refusals.Conflict key)) lives.InConflict lives.Failed lends maps = maps
  answer_mapped (Err (refusals.Conflict key)) lives.Failed answer lends maps = absurd lends
  answer_mapped (Err refusals.Failed) (lives.Is lent) answer lends maps = absurd lends
  answer_mapped (Err refusals.Failed) lives.InConflict answer lends maps = absurd lends
  answer_mapped (Err refusals.Failed) lives.Failed (lives.Is x) lends maps = maps
  answer_mapped (Err refusals.Failed) lives.Failed lives.InConflict lends maps = maps
  answer_mapped (Err refusals.Failed) lives.Failed lives.Failed lends maps = tt

  -- and of a function that may run out of memory
  pub answer_tried : {E : Type 0} (outcome : Result HeapValue Refusal) (lent : Live (Option (Bor Heap))) (tried : Result (Live X) E)
      → LendsHeap outcome lent → IfOk tried (MapsTo gives lent) → IfOk tried (IsAnswer P outcome)
  answer_tried outcome lent (Ok answer) lends maps = answer_mapped outcome lent answer lends maps
  answer_tried outcome lent (Err e) lends maps = tt

-- what follows from an answer, where that is derived
pub answer_so : {X : Type 0} (P Q : IdSize → List FactValue → X → Type 0) (outcome : Result HeapValue Refusal) (derived : Derived)
    (answer : Live X) → IsAnswer P outcome answer → IsDerivedOf outcome derived
    → ((ids : IdSize) (facts : List FactValue) (x : X) → IsDerived ids facts derived → P ids facts x → Q ids facts x)
    → IsAnswer Q outcome answer
answer_so P Q (Ok heap) derived (lives.Is x) holds is all = all heap.ids heap.facts x is holds
answer_so P Q (Ok heap) derived lives.InConflict holds is all = holds
answer_so P Q (Ok heap) derived lives.Failed holds is all = holds
answer_so P Q (Err refusals.NoParts) derived (lives.Is x) holds is all = λ ids. all ids [] x (is ids) (holds ids)
answer_so P Q (Err refusals.NoParts) derived lives.InConflict holds is all = holds
answer_so P Q (Err refusals.NoParts) derived lives.Failed holds is all = holds
answer_so P Q (Err refusals.IdSizes) derived (lives.Is x) holds is all = holds
answer_so P Q (Err refusals.IdSizes) derived lives.InConflict holds is all = tt
answer_so P Q (Err refusals.IdSizes) derived lives.Failed holds is all = holds
answer_so P Q (Err (refusals.Conflict key)) derived (lives.Is x) holds is all = holds
answer_so P Q (Err (refusals.Conflict key)) derived lives.InConflict holds is all = tt
answer_so P Q (Err (refusals.Conflict key)) derived lives.Failed holds is all = holds
answer_so P Q (Err refusals.Failed) derived (lives.Is x) holds is all = holds
answer_so P Q (Err refusals.Failed) derived lives.InConflict holds is all = holds
answer_so P Q (Err refusals.Failed) derived lives.Failed holds is all = tt

-- which comes, by what is answered
pub kind_answered : {X : Type 0} (P : IdSize → List FactValue → X → Type 0) (outcome : Result HeapValue Refusal) (answer : Live X)
    → IsAnswer P outcome answer → IsKindOf outcome answer
kind_answered P (Ok heap) (lives.Is x) holds = tt
kind_answered P (Ok heap) lives.InConflict holds = holds
kind_answered P (Ok heap) lives.Failed holds = holds
kind_answered P (Err refusals.NoParts) (lives.Is x) holds = tt
kind_answered P (Err refusals.NoParts) lives.InConflict holds = holds
kind_answered P (Err refusals.NoParts) lives.Failed holds = holds
kind_answered P (Err refusals.IdSizes) answer holds = holds
kind_answered P (Err (refusals.Conflict key)) answer holds = holds
kind_answered P (Err refusals.Failed) answer holds = holds

-- ---- a header

begun_on : (derived : Derived) (heap : Option HeapValue) (conflict : Option Key) (two : Bool) (header : Header)
    → IsDerivedOf (unconflicted heap conflict two) derived
    → IsDerivedOf (unconflicted (Some (begun_heap heap header)) conflict (two || has_other_size heap header)) derived
begun_on derived None conflict true header is = tt
begun_on derived None (Some key) false header is = tt
begun_on derived None None false header is = is header.ids
begun_on derived (Some heap) conflict true header is = tt
begun_on derived (Some heap) (Some key) false header is =
    elim (same_size heap.ids header.ids) as
    (λ t. IsDerivedOf (unconflicted (Some (begun_heap (Some heap) header)) (Some key) (not t)) derived) [ true ↦ tt | false ↦ tt ]
begun_on derived (Some heap) None false header is =
    elim (same_size heap.ids header.ids) as
    (λ t. IsDerivedOf (unconflicted (Some (cond t (record heap { millis = min heap.millis header.millis }) heap)) None (not t)) derived)
    [ true ↦ is | false ↦ tt ]

-- what a gatherer answers that has not failed
unfailed : (g : Gathered) → g.failed ≡ false → answer_of g ≡ unconflicted g.heap g.conflict g.two_sizes
unfailed g e = ap (λ (t : Bool). cond t (Err refusals.Failed) (unconflicted g.heap g.conflict g.two_sizes)) e

pub begins_on : (old new : Gathered) (header : Header) (derived : Derived) → Begins old header new → IsDerivedOf (answer_of old) derived
    → IsDerivedOf (answer_of new) derived
begins_on old new header derived begins is =
    let before = subst (λ (o : Result HeapValue Refusal). IsDerivedOf o derived) (unfailed old begins.was_sound) is in
    let after = begun_on derived old.heap old.conflict old.two_sizes header before in
    subst (λ (o : Result HeapValue Refusal). IsDerivedOf o derived) (sym (unfailed new begins.sound))
    (subst (λ (h : Option HeapValue). IsDerivedOf (unconflicted h new.conflict new.two_sizes) derived) (sym begins.heap)
    (subst (λ (k : Option Key). IsDerivedOf (unconflicted (Some (begun_heap old.heap header)) k new.two_sizes) derived)
    (sym begins.conflict)
    (subst (λ (t : Bool). IsDerivedOf (unconflicted (Some (begun_heap old.heap header)) old.conflict t) derived) (sym begins.two_sizes)
    after)))

-- ---- a fact

module _ (fact : FactValue) where
  adds_fact : (heap new : HeapValue) → Adds heap fact new → AddsFact heap.facts fact new.facts
  adds_fact heap new adds = record {
    same = adds.facts;
    new = record { is_new = adds.is_new; absent = adds.absent };
    agree = order_agrees new.facts adds.is_heap.ordered;
  }

  -- a key with two contents
  in_conflict : (derived : Derived) (heap : HeapValue) (mark : Option Key) (key : Key) → key_of fact ≡ Some key
      → IsDerivedOf (unconflicted (Some heap) (marked mark (key_of fact)) false) derived
  in_conflict derived heap None key e =
      subst (λ (k : Option Key). IsDerivedOf (unconflicted (Some heap) (marked None k) false) derived) (sym e) tt
  in_conflict derived heap (Some least) key e =
      subst (λ (k : Option Key). IsDerivedOf (unconflicted (Some heap) (marked (Some least) k) false) derived) (sym e) tt

  -- what is derived follows the facts of this heap
  abbrev pub DerivesInto : Derived → Derived → Result HeapValue Refusal → Type 0
  DerivesInto derived other outcome = (before : List FactValue) (heap : HeapValue) → outcome ≡ Ok heap → AddsFact before fact heap.facts
      → IsDerived heap.ids before derived → IsDerived heap.ids heap.facts other

  -- ---- the gatherer took it, and it came to that

  module _ (old new : Gathered) (takes : Takes old fact new) where
    -- with two sizes begun nothing changed
    untouched : (two : Bool) (heap after : Option HeapValue) (mark more : Option Key) → two ≡ true → TakesHeap two heap mark fact after more
        → (after ≡ heap) × (more ≡ mark)
    untouched true heap after mark more e same = same
    untouched false heap after mark more e same = absurd cc

    outcome_untouched : old.two_sizes ≡ true → answer_of new ≡ answer_of old
    outcome_untouched two =
        let was = unfailed old takes.was_sound in
        let is = unfailed new takes.sound in
        let same = untouched old.two_sizes old.heap new.heap old.conflict new.conflict two takes.taken in
        let sizes = takes.two_sizes in
        cc

    module _ (stated : Stated) (is_stated : IsStated old fact stated new) where
      outcome_was : answer_of old ≡ unconflicted (Some is_stated.before) old.conflict false
      outcome_was = let was = unfailed old takes.was_sound in cc

      outcome_is : answer_of new ≡ unconflicted (Some is_stated.after) (mark_after stated old.conflict fact) false
      outcome_is = let is = unfailed new takes.sound in let sizes = takes.two_sizes in cc

    -- it was not new
    module _ (derived : Derived) where
      passed_by : (heap after : HeapValue) (stated : Stated) (mark : Option Key) → StatesInto heap fact stated after → stated ≢ New
          → IsDerivedOf (unconflicted (Some heap) mark false) derived
          → IsDerivedOf (unconflicted (Some after) (mark_after stated mark fact) false) derived
      passed_by heap after New mark states no_new is = absurd (no_new refl)
      passed_by heap after Same mark states no_new is =
          subst (λ (h : HeapValue). IsDerivedOf (unconflicted (Some h) mark false) derived) (sym states.1) is
      passed_by heap after Differs mark states no_new is = in_conflict derived after mark states.0.one_key.key states.0.one_key.key_of_other

      pub takes_on : (came : Option Stated) → TellsStated old fact came new → came ≢ Some New → IsDerivedOf (answer_of old) derived
          → IsDerivedOf (answer_of new) derived
      takes_on None two no_new is = subst (λ (o : Result HeapValue Refusal). IsDerivedOf o derived) (sym (outcome_untouched two)) is
      takes_on (Some stated) is_stated no_new is =
          subst (λ (o : Result HeapValue Refusal). IsDerivedOf o derived) (sym (outcome_is stated is_stated))
          (passed_by is_stated.before is_stated.after stated old.conflict is_stated.states (λ e. no_new (ap (λ (s : Stated). Some s) e))
          (subst (λ (o : Result HeapValue Refusal). IsDerivedOf o derived) (outcome_was stated is_stated) is))

    -- it was new, and what there is to derive from it was derived
    module _ (derived other : Derived) where
      derived_from : (heap after : HeapValue) (mark : Option Key) → Adds heap fact after
          → DerivesInto derived other (unconflicted (Some after) mark false) → IsDerivedOf (unconflicted (Some heap) mark false) derived
          → IsDerivedOf (unconflicted (Some after) mark false) other
      derived_from heap after (Some key) adds follows is = tt
      derived_from heap after None adds follows is =
          follows heap.facts after refl (adds_fact heap after adds)
          (subst (λ (ids : IdSize). IsDerived ids heap.facts derived) (sym adds.ids) is)

      pub takes_first : IsStated old fact New new → DerivesInto derived other (answer_of new) → IsDerivedOf (answer_of old) derived
          → IsDerivedOf (answer_of new) other
      takes_first is_stated follows is =
          subst (λ (o : Result HeapValue Refusal). IsDerivedOf o other) (sym (outcome_is New is_stated))
          (derived_from is_stated.before is_stated.after old.conflict is_stated.states
          (subst (DerivesInto derived other) (outcome_is New is_stated) follows)
          (subst (λ (o : Result HeapValue Refusal). IsDerivedOf o derived) (outcome_was New is_stated) is))

-- ---- the live heap

module _ (old : LiveHeap) (sound : old.failed ≡ false) where
  current_was : IsCurrent old → IsDerivedOf (answer_of (gathered old.gatherer)) old.derived
  current_was current = subst (λ (o : Result HeapValue Refusal). IsDerivedOf o old.derived) (sound_outcome old sound) current.derived

  module _ (new : LiveHeap) (sound_new : new.failed ≡ false) where
    current_now : IsDerivedOf (answer_of (gathered new.gatherer)) new.derived → IsCurrent new
    current_now is = record {
      derived = subst (λ (o : Result HeapValue Refusal). IsDerivedOf o new.derived) (sym (sound_outcome new sound_new)) is;
    }

    -- a part was begun
    pub begins_live : (header : Header) → Begins (gathered old.gatherer) header (gathered new.gatherer) → new.derived ≡ old.derived
        → BeginsLive old header new
    begins_live header begins same = record {
      begins = subst (λ (g : Gathered). Begins g header (seen_by new)) (sym (sound_seen old sound))
          (subst (λ (g : Gathered). Begins (gathered old.gatherer) header g) (sym (sound_seen new sound_new)) begins);
      goes_on = record {
        current = λ current. current_now (subst (IsDerivedOf (answer_of (gathered new.gatherer))) (sym same)
            (begins_on (gathered old.gatherer) (gathered new.gatherer) header old.derived begins (current_was current)));
        keeps = ap keeps_of same;
      };
    }

    module _ (fact : FactValue) (takes : Takes (gathered old.gatherer) fact (gathered new.gatherer)) where
      takes_seen : Takes (seen_by old) fact (seen_by new)
      takes_seen =
          subst (λ (g : Gathered). Takes g fact (seen_by new)) (sym (sound_seen old sound))
          (subst (λ (g : Gathered). Takes (gathered old.gatherer) fact g) (sym (sound_seen new sound_new)) takes)

      -- it was not new
      pub takes_live : (came : Option Stated) → TellsStated (gathered old.gatherer) fact came (gathered new.gatherer) → came ≢ Some New
          → new.derived ≡ old.derived → TakesLive old fact new
      takes_live came comes no_new same = record {
        takes = takes_seen;
        goes_on = record {
          current = λ current. current_now (subst (IsDerivedOf (answer_of (gathered new.gatherer))) (sym same)
              (takes_on fact (gathered old.gatherer) (gathered new.gatherer) takes old.derived came comes no_new (current_was current)));
          keeps = ap keeps_of same;
        };
      }

      -- it was new, and what there is to derive from it was derived
      pub takes_first_live : IsStated (gathered old.gatherer) fact New (gathered new.gatherer)
          → DerivesInto fact old.derived new.derived (answer_of (gathered new.gatherer)) → keeps_of new.derived ≡ keeps_of old.derived
          → TakesLive old fact new
      takes_first_live is_stated derives keeps = record {
        takes = takes_seen;
        goes_on = record {
          current = λ current. current_now (takes_first fact (gathered old.gatherer) (gathered new.gatherer) takes old.derived new.derived
              is_stated derives (current_was current));
          keeps = keeps;
        };
      }

-- ---- what is derived, of the same facts

derived_so : (outcome : Result HeapValue Refusal) (derived other : Derived)
    → ((ids : IdSize) (facts : List FactValue) → IsDerived ids facts derived → IsDerived ids facts other)
    → IsDerivedOf outcome derived → IsDerivedOf outcome other
derived_so (Ok heap) derived other all is = all heap.ids heap.facts is
derived_so (Err refusals.NoParts) derived other all is = λ ids. all ids [] (is ids)
derived_so (Err refusals.IdSizes) derived other all is = tt
derived_so (Err (refusals.Conflict key)) derived other all is = tt
derived_so (Err refusals.Failed) derived other all is = tt

module _ (old : LiveHeap) (other : Derived) where
  pub outcome_stays : outcome_of (record old { derived = other }) ≡ outcome_of old
  unfolding outcome_of
  outcome_stays = refl

  pub current_stays : ((ids : IdSize) (facts : List FactValue) → IsDerived ids facts old.derived → IsDerived ids facts other)
      → IsCurrent old → IsCurrent (record old { derived = other })
  current_stays all current = record {
    derived = subst (λ (o : Result HeapValue Refusal). IsDerivedOf o other) (sym outcome_stays)
        (derived_so (outcome_of old) old.derived other all current.derived);
  }

-- what is derived is of the heap that is come to
pub derived_of_heap : (live : LiveHeap) (heap : Heap) → Ok (heap_of heap) ≡ outcome_of live → IsCurrent live
    → IsDerived (size_of heap) (facts_of heap) live.derived
unfolding size_of facts_of
derived_of_heap live heap e current = subst (λ (o : Result HeapValue Refusal). IsDerivedOf o live.derived) (sym e) current.derived
