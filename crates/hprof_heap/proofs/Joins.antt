-- What joining two heaps comes to.
use Rattle.std.proofs.Common.{◌≡◌, ◌≢◌, ℕ, min, true, List, [], ◌∷◌, ◌++◌, find, Option, Some, None, Result, Ok, Err, refl, sym, ap, subst}
use Rattle.std.proofs.Common.{◌∙◌, append_assoc, ◌⊎◌, inl, inr, arith, le_refl, lt_of_le_of_lt}
use Rattle.std.proofs.Math.Nat.{min-le_left, min-eq_left, min_comm}
use Rattle.std.proofs.lemmas.List.{append-nil}
use Rattle.hprof_values.specs.declared.ids.IdSize.{IdSize}
use Rattle.hprof_values.specs.declared.ids.IdSize.TheVariants.{Four, Eight}
use Rattle.hprof_items.specs.FactValue.{FactValue}
use Rattle.hprof_items.specs.Header.{IsMillis}
use Rattle.hprof_items.specs.Spelling.{Fits}
use Rattle.hprof_tables.specs.declared.relation.Stated.{Stated}
use Rattle.hprof_tables.specs.declared.relation.Stated.TheVariants.{New, Same, Differs}
use Rattle.hprof_heap.specs.declared.join_refusal.JoinRefusal.{JoinRefusal}
use Rattle.hprof_heap.specs.declared.join_refusal.JoinRefusal.TheVariants as refusals
use Rattle.hprof_rows.specs.declared.key.Key.{Key}
use Rattle.hprof_rows.specs.Conflict.{IsConsistent, IsLeastConflict}
use Rattle.hprof_rows.specs.Facts.{Has, SameFacts, AllFit}
use Rattle.hprof_rows.specs.Stating.{HasOther, StatesInto}
use Rattle.hprof_heap.specs.Gathering.{mark_after}
use Rattle.hprof_rows.specs.HeapValue.{HeapValue, IsHeap}
use Rattle.hprof_heap.specs.Join.{IsUnion, IsBetween, IsJoin}
use Rattle.hprof_rows.proofs.Conflicts.{IsConsistent-same, IsConsistent-some, IsLeastConflict-same, one_least, no_conflict}
use Rattle.hprof_rows.proofs.FactEquality.{one_or_two}
use Rattle.hprof_rows.proofs.FactSets.{Has-parts, Has-front, Has-back, Has-both, SameFacts-refl, SameFacts-sym, SameFacts-trans}
use Rattle.hprof_rows.proofs.FactSets.{SameFacts-append, SameFacts-turned, SameFacts-twice}
use Rattle.hprof_heap.proofs.Told.{holds_all, holds_least}
use Rattle.hprof_heap.proofs.Marks.{Holds, holds_new, holds_same, holds_differs}
use Rattle.hprof_rows.proofs.Inserting.{agreeing-order, find-Some, inserted, inserted-adds, states-sound}
use Rattle.hprof_rows.proofs.Keys.{same_place, same_place-true, HaveOneKey-sym}
use Rattle.hprof_rows.proofs.Order.{one_order, order_agrees}

-- ---- heaps as values

-- heaps of one size and time with the same facts are one
pub one_heap : (heap other : HeapValue) → heap.ids ≡ other.ids → heap.millis ≡ other.millis → SameFacts heap.facts other.facts
    → IsHeap heap → IsHeap other → heap ≡ other
one_heap heap other ids millis same is is_too =
    let facts : heap.facts ≡ other.facts = one_order heap.facts other.facts is.ordered is_too.ordered same in
    ap (λ (i : IdSize). record heap { ids = i }) ids
    ∙ ap (λ (m : ℕ). record heap { ids = other.ids; millis = m }) millis
    ∙ ap (λ (f : List FactValue). record other { facts = f }) facts

-- sizes are one, or two
one_size_or_two : (ids other : IdSize) → (ids ≡ other) ⊎ (ids ≢ other)
one_size_or_two Four Four = inl refl
one_size_or_two Four Eight = inr (λ e. cc)
one_size_or_two Eight Four = inr (λ e. cc)
one_size_or_two Eight Eight = inl refl

-- the lesser of two times is a time
IsMillis-min : (one other : ℕ) → IsMillis one → IsMillis (min one other)
IsMillis-min one other is = lt_of_le_of_lt (min-le_left one other) is

-- the least of three times
min_assoc : (one other third : ℕ) → min (min one other) third ≡ min one (min other third)
min_assoc one other third = omega arith

-- ---- the heap of both

-- two heaps have at most one heap of both
pub union_once : (one other all more : HeapValue) → IsUnion one other all → IsUnion one other more → all ≡ more
union_once one other all more u v =
    one_heap all more (u.ids ∙ sym v.ids) (u.millis ∙ sym v.millis)
    (SameFacts-trans all.facts (one.facts ++ other.facts) more.facts u.facts
    (SameFacts-sym more.facts (one.facts ++ other.facts) v.facts)) u.is_heap v.is_heap

-- in either order
pub union_turned : (one other all : HeapValue) → IsUnion one other all → IsUnion other one all
union_turned one other all u = record {
  one_size = sym u.one_size;
  ids = u.ids ∙ u.one_size;
  millis = u.millis ∙ min_comm one.millis other.millis;
  facts = SameFacts-trans all.facts (one.facts ++ other.facts) (other.facts ++ one.facts) u.facts (SameFacts-turned one.facts other.facts);
  is_heap = u.is_heap;
}

-- facts of two heaps fit where those of each do
both_fit : (one other : HeapValue) (facts : List FactValue) → one.ids ≡ other.ids → AllFit one.ids one.facts
    → AllFit other.ids other.facts → ((fact : FactValue) → Has facts fact → Has (one.facts ++ other.facts) fact) → AllFit one.ids facts
both_fit one other facts one_size fit fit_too some fact has = elim (Has-parts one.facts other.facts fact (some fact has)) [
  | inl h ↦ fit fact h
  | inr h ↦ subst (λ (i : IdSize). Fits i fact) (sym one_size) (fit_too fact h)
]

-- heaps of one size that agree have one
pub agreeing-union : (one other : HeapValue) → one.ids ≡ other.ids → IsHeap one → IsHeap other → IsConsistent (one.facts ++ other.facts)
    → (all : HeapValue) × IsUnion one other all
agreeing-union one other one_size is is_too agree =
    let rows = agreeing-order (one.facts ++ other.facts) agree in (
      record { ids = one.ids; millis = min one.millis other.millis; facts = rows.0 },
      record {
        one_size = one_size;
        ids = refl;
        millis = refl;
        facts = rows.2;
        is_heap = record {
          is_millis = IsMillis-min one.millis other.millis is.is_millis;
          fit = both_fit one other rows.0 one_size is.fit is_too.fit (λ fact. (rows.2 fact).0);
          ordered = rows.1;
        };
      },
    )

-- the facts of two heaps of which there is a heap agree
union_agrees : (one other all : HeapValue) → IsUnion one other all → IsConsistent (one.facts ++ other.facts)
union_agrees one other all u = IsConsistent-same all.facts (one.facts ++ other.facts) u.facts (order_agrees all.facts u.is_heap.ordered)

-- ---- stating a heap's facts into another

-- what stating a fact does to what a heap holds
pub holds_stated : (stated : Stated) (given : List FactValue) (heap : HeapValue) (mark : Option Key) (fact : FactValue) (new : HeapValue)
    → Holds given heap.facts mark → StatesInto heap fact stated new
    → Holds (given ++ fact ∷ []) new.facts (mark_after stated mark fact)
holds_stated New given heap mark fact new holds states = holds_new given heap mark fact new holds states
holds_stated Same given heap mark fact new holds states = rw states.1 (holds_same given heap.facts mark fact holds states.0)
holds_stated Differs given heap mark fact new holds states = rw states.1 (holds_differs given heap.facts mark fact holds states.0)

-- it keeps the size and the time
pub stated_ids : (stated : Stated) (heap : HeapValue) (fact : FactValue) (new : HeapValue) → StatesInto heap fact stated new
    → new.ids ≡ heap.ids
stated_ids New heap fact new states = states.ids
stated_ids Same heap fact new states = ap (λ (h : HeapValue). h.ids) states.1
stated_ids Differs heap fact new states = ap (λ (h : HeapValue). h.ids) states.1

pub stated_millis : (stated : Stated) (heap : HeapValue) (fact : FactValue) (new : HeapValue) → StatesInto heap fact stated new
    → new.millis ≡ heap.millis
stated_millis New heap fact new states = states.millis
stated_millis Same heap fact new states = ap (λ (h : HeapValue). h.millis) states.1
stated_millis Differs heap fact new states = ap (λ (h : HeapValue). h.millis) states.1

-- a fact at the place of one that differs has another one's key
other_there : (facts : List FactValue) (fact other : FactValue) → Has facts other → same_place fact other ≡ true → fact ≢ other
    → HasOther facts fact
other_there facts fact other there placed differ = record {
  other = other;
  has_other = there;
  one_key = elim (same_place-true fact other placed) [ inl have ↦ HaveOneKey-sym fact other have | inr same ↦ absurd (differ same) ];
  differ = λ same. differ (sym same);
}

-- a fact that fits can be stated
abbrev CanState : HeapValue → FactValue → Type 0
CanState heap fact = (stated : Stated) × (new : HeapValue) × StatesInto heap fact stated new

-- by whether another one is found at its place
state_by : (heap : HeapValue) (fact : FactValue) (found : Option FactValue) → find (same_place fact) heap.facts ≡ found → IsHeap heap
    → Fits heap.ids fact → CanState heap fact
state_by heap fact None e is fits = (New, record heap { facts = inserted heap.facts fact }, inserted-adds heap fact e fits is)
state_by heap fact (Some other) e is fits =
    let there = find-Some (same_place fact) heap.facts other e in
    elim (one_or_two heap.ids fact other fits (is.fit other there.0)) [
      | inl same ↦ (Same, heap, (subst (Has heap.facts) (sym same) there.0, refl))
      | inr apart ↦ (Differs, heap, (other_there heap.facts fact other there.0 there.1 apart, refl))
    ]

can_state : (heap : HeapValue) (fact : FactValue) → IsHeap heap → Fits heap.ids fact → CanState heap fact
can_state heap fact is fits = state_by heap fact (find (same_place fact) heap.facts) refl is fits

-- what stating facts, one after the other, into a heap leaves, where it held what was given before
pub record Leaves (given : List FactValue) (heap : HeapValue) : Type 0 where
  pub new : HeapValue
  pub mark : Option Key
  pub ids : new.ids ≡ heap.ids
  pub millis : new.millis ≡ heap.millis
  pub is_heap : IsHeap new
  pub holds : Holds given new.facts mark

pub state_all : (facts given : List FactValue) (heap : HeapValue) (mark : Option Key) → IsHeap heap → AllFit heap.ids facts
    → Holds given heap.facts mark → Leaves (given ++ facts) heap
state_all [] given heap mark is fit holds = record {
  new = heap;
  mark = mark;
  ids = refl;
  millis = refl;
  is_heap = is;
  holds = subst (λ (all : List FactValue). Holds all heap.facts mark) (sym (append-nil given)) holds;
}
state_all (fact ∷ facts) given heap mark is fit holds =
    let step = can_state heap fact is (fit fact (inl refl)) in
    let ids = stated_ids step.0 heap fact step.1 step.2 in
    let rest = state_all facts (given ++ fact ∷ []) step.1 (mark_after step.0 mark fact) (states-sound heap step.1 fact step.0 step.2 is)
    (λ other has. subst (λ (i : IdSize). Fits i other) (sym ids) (fit other (inr has)))
    (holds_stated step.0 given heap mark fact step.1 holds step.2) in
    record {
      new = rest.new;
      mark = rest.mark;
      ids = rest.ids ∙ ids;
      millis = rest.millis ∙ stated_millis step.0 heap fact step.1 step.2;
      is_heap = rest.is_heap;
      holds = subst (λ (all : List FactValue). Holds all rest.new.facts rest.mark) (append_assoc given (fact ∷ []) facts) rest.holds;
    }

-- the facts of a heap, with no mark, hold themselves
holds_itself : (heap : HeapValue) → IsHeap heap → Holds heap.facts heap.facts None
holds_itself heap is = record { ordered = is.ordered; was_given = λ fact has. has; each = λ fact has. inl has; has_mark = tt }

-- what two heaps of one size come to, by the mark that is left
join_by : (one other new : HeapValue) (mark : Option Key) → one.ids ≡ other.ids → new.ids ≡ one.ids
    → new.millis ≡ min one.millis other.millis → IsHeap new
    → Holds (one.facts ++ other.facts) new.facts mark → (outcome : Result HeapValue JoinRefusal) × IsJoin one other outcome
join_by one other new None one_size ids millis is holds =
    let same = holds_all (one.facts ++ other.facts) new.facts holds in
    (Ok new, record { one_size = one_size; ids = ids; millis = millis; facts = same; is_heap = is })
join_by one other new (Some key) one_size ids millis is holds =
    (Err (refusals.Conflict key), (one_size, holds_least (one.facts ++ other.facts) new.facts key holds))

join_sized : (one other : HeapValue) → one.ids ≡ other.ids → IsHeap one → IsHeap other
    → (outcome : Result HeapValue JoinRefusal) × IsJoin one other outcome
join_sized one other one_size is is_too =
    let begun : IsHeap (record one { millis = min one.millis other.millis }) =
    record { is_millis = IsMillis-min one.millis other.millis is.is_millis; fit = is.fit; ordered = is.ordered } in
    let left = state_all other.facts one.facts (record one { millis = min one.millis other.millis }) None begun
    (λ fact has. subst (λ (i : IdSize). Fits i fact) (sym one_size) (is_too.fit fact has)) (holds_itself one is) in
    join_by one other left.new left.mark one_size left.ids left.millis left.is_heap left.holds

-- two heaps come to something
pub join_exists : (one other : HeapValue) → IsHeap one → IsHeap other
    → (outcome : Result HeapValue JoinRefusal) × IsJoin one other outcome
join_exists one other is is_too = elim (one_size_or_two one.ids other.ids) [
  | inl same ↦ join_sized one other same is is_too
  | inr apart ↦ (Err refusals.IdSizes, apart)
]

-- ---- one outcome

-- where there is a heap of both there is no least conflict
union_no_conflict : (one other all : HeapValue) (key : Key) → IsUnion one other all → IsLeastConflict (one.facts ++ other.facts) key → ⊥
union_no_conflict one other all key u least = no_conflict (one.facts ++ other.facts) key (union_agrees one other all u) least.conflict

-- two heaps come to one thing
pub join_once : (one other : HeapValue) (outcome more : Result HeapValue JoinRefusal) → IsJoin one other outcome → IsJoin one other more
    → outcome ≡ more
join_once one other (Ok all) (Ok more) j k = ap Ok (union_once one other all more j k)
join_once one other (Ok all) (Err refusals.IdSizes) j k = absurd (k j.one_size)
join_once one other (Ok all) (Err (refusals.Conflict key)) j k = absurd (union_no_conflict one other all key j k.1)
join_once one other (Err refusals.IdSizes) (Ok more) j k = absurd (j k.one_size)
join_once one other (Err refusals.IdSizes) (Err refusals.IdSizes) j k = refl
join_once one other (Err refusals.IdSizes) (Err (refusals.Conflict key)) j k = absurd (j k.0)
join_once one other (Err (refusals.Conflict key)) (Ok more) j k = absurd (union_no_conflict one other more key k j.1)
join_once one other (Err (refusals.Conflict key)) (Err refusals.IdSizes) j k = absurd (k j.0)
join_once one other (Err (refusals.Conflict key)) (Err (refusals.Conflict named)) j k =
    ap (λ (x : Key). Err (refusals.Conflict x)) (one_least (one.facts ++ other.facts) key named j.1 k.1)
join_once one other (Err refusals.OutOfMemory) more j k = absurd j
join_once one other outcome (Err refusals.OutOfMemory) j k = absurd k

-- in either order
pub join_turned : (one other : HeapValue) (outcome : Result HeapValue JoinRefusal) → IsJoin one other outcome → IsJoin other one outcome
join_turned one other (Ok all) j = union_turned one other all j
join_turned one other (Err refusals.IdSizes) j = λ same. j (sym same)
join_turned one other (Err (refusals.Conflict key)) j =
    (sym j.0, IsLeastConflict-same (one.facts ++ other.facts) (other.facts ++ one.facts) key (SameFacts-turned one.facts other.facts) j.1)
join_turned one other (Err refusals.OutOfMemory) j = absurd j

-- a heap and itself come to it
pub join_itself : (heap : HeapValue) → IsHeap heap → IsUnion heap heap heap
join_itself heap is = record {
  one_size = refl;
  ids = refl;
  millis = sym (min-eq_left (le_refl heap.millis));
  facts = SameFacts-twice heap.facts;
  is_heap = is;
}

-- ---- three heaps

-- a heap of three in one grouping is one in the other
pub union_left : (one other third both all : HeapValue) → IsHeap one → IsHeap other → IsHeap third → IsUnion one other both
    → IsUnion both third all
    → (rest : HeapValue) × IsUnion other third rest × IsUnion one rest all
union_left one other third both all is is_too is_third u v =
    let same : SameFacts all.facts (one.facts ++ (other.facts ++ third.facts)) = facts_left in
    let rest = agreeing-union other third (sym u.one_size ∙ sym u.ids ∙ v.one_size) is_too is_third
    (IsConsistent-some all.facts (other.facts ++ third.facts)
    (λ fact has. (same fact).1 (Has-back one.facts (other.facts ++ third.facts) fact has)) (order_agrees all.facts v.is_heap.ordered)) in
    let w = rest.1 in (
      rest.0,
      rest.1,
      record {
        one_size = u.one_size ∙ sym w.ids;
        ids = v.ids ∙ u.ids;
        millis = times w.millis;
        facts = SameFacts-trans all.facts (one.facts ++ (other.facts ++ third.facts)) (one.facts ++ rest.0.facts) same
            (SameFacts-append one.facts (other.facts ++ third.facts) one.facts rest.0.facts (SameFacts-refl one.facts)
            (SameFacts-sym rest.0.facts (other.facts ++ third.facts) w.facts));
        is_heap = v.is_heap;
      },
    )
  where
    facts_left : SameFacts all.facts (one.facts ++ (other.facts ++ third.facts))
    facts_left = subst (SameFacts all.facts) (append_assoc one.facts other.facts third.facts)
        (SameFacts-trans all.facts (both.facts ++ third.facts) ((one.facts ++ other.facts) ++ third.facts) v.facts
        (SameFacts-append both.facts third.facts (one.facts ++ other.facts) third.facts u.facts (SameFacts-refl third.facts)))

    times : {millis : ℕ} → millis ≡ min other.millis third.millis → all.millis ≡ min one.millis millis
    times e =
        v.millis ∙ ap (λ (m : ℕ). min m third.millis) u.millis ∙ min_assoc one.millis other.millis third.millis
        ∙ ap (min one.millis) (sym e)

-- and the other way round
pub union_right : (one other third rest all : HeapValue) → IsHeap one → IsHeap other → IsHeap third → IsUnion other third rest
    → IsUnion one rest all
    → (both : HeapValue) × IsUnion one other both × IsUnion both third all
union_right one other third rest all is is_too is_third u v =
    let turned = union_left third other one rest all is_third is_too is (union_turned other third rest u) (union_turned one rest all v) in
    (turned.0, union_turned other one turned.0 turned.1, union_turned third turned.0 all turned.2)

-- ---- between

-- a heap between, with the other, has the facts of both
pub between_facts : (one other between : HeapValue) → IsBetween one other between
    → SameFacts (between.facts ++ other.facts) (one.facts ++ other.facts)
between_facts one other between b fact = (
  Has-both between.facts other.facts (one.facts ++ other.facts) b.from_both (Has-back one.facts other.facts) fact,
  Has-both one.facts other.facts (between.facts ++ other.facts)
      (λ f has. Has-front between.facts other.facts f (b.kept f has)) (Has-back between.facts other.facts) fact,
)

-- what it comes to with the other, the first comes to with it
pub join_again : (one other between : HeapValue) (outcome : Result HeapValue JoinRefusal) → IsBetween one other between
    → IsJoin between other outcome → IsJoin one other outcome
join_again one other between (Ok all) b j = record {
  one_size = b.one_size;
  ids = j.ids ∙ b.ids;
  millis = j.millis ∙ ap (λ (m : ℕ). min m other.millis) b.millis;
  facts = SameFacts-trans all.facts (between.facts ++ other.facts) (one.facts ++ other.facts) j.facts (between_facts one other between b);
  is_heap = j.is_heap;
}
join_again one other between (Err refusals.IdSizes) b j = absurd (j (b.ids ∙ b.one_size))
join_again one other between (Err (refusals.Conflict key)) b j =
    (b.one_size, IsLeastConflict-same (between.facts ++ other.facts) (one.facts ++ other.facts) key (between_facts one other between b) j.1)
join_again one other between (Err refusals.OutOfMemory) b j = absurd j
