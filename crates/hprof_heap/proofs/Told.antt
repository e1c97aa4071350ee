-- What a gatherer's answer tells of the parts that it was given.
use Rattle.std.proofs.Common.{◌≡◌, ℕ, Bool, true, false, List, [], ◌∷◌, ◌++◌, map, Option, Some, None, refl, sym}
use Rattle.std.proofs.Common.{subst, inl, inr}
use Rattle.std.specs.List.{AllByRecursion}
use Rattle.std.proofs.lemmas.List.{append-nil}
use Rattle.std.proofs.lemmas.Simd.{map-map}
use Rattle.hprof_items.specs.declared.header.Header.{Header}
use Rattle.hprof_values.specs.declared.ids.IdSize.{IdSize}
use Rattle.hprof_items.specs.FactValue.{FactValue}
use Rattle.hprof_stream.specs.Run.{Run}
use Rattle.hprof_heap.specs.declared.gatherer.Gatherer.{Gatherer}
use Rattle.hprof_heap.specs.declared.heap.Heap.{Heap}
use Rattle.hprof_rows.specs.declared.key.Key.{Key}
use Rattle.hprof_rows.specs.Key.{HaveOneKey, key_of, key_le}
use Rattle.hprof_rows.specs.Facts.{SameFacts}
use Rattle.hprof_rows.specs.Conflict.{HasConflict, IsLeastConflict}
use Rattle.hprof_heap.specs.State.{IsLeastOf}
use Rattle.hprof_rows.specs.HeapValue.{HeapValue, IsHeap}
use Rattle.hprof_heap.specs.Gathering.{Gathered, Given, gathered, lent_heap, nothing_gathered}
use Rattle.hprof_rows.specs.Stating.{HasOther, IsNewAmong}
use Rattle.hprof_heap.specs.Gathering.{Begins, LacksRow, HaveOneSize, IsNewBehind}
use Rattle.hprof_heap.specs.Gathering.{Takes, Gathers, all_given, unconflicted, answer_of, Tells}
use Rattle.hprof_heap.proofs.Least.{no_least}
use Rattle.hprof_rows.proofs.Keys.{HaveOneKey-trans}
use Rattle.hprof_rows.proofs.Order.{order_agrees}
use Rattle.hprof_rows.proofs.Conflicts.{IsConsistent-same}
use Rattle.hprof_heap.proofs.Marks.{Holds}
use Rattle.hprof_heap.proofs.Gathering.{HaveSize, IsUnion, Unites, Stands, HaveSize-parts, begins_stands, steps_stand}
use Rattle.hprof_heap.proofs.Gathering.{headers_of, gathered_stands}

-- ---- what is told

-- parts have the size of their headers
parts_have : (ids : IdSize) (parts : List Given) → HaveSize ids (headers_of parts) → AllByRecursion (λ part. part.header.ids ≡ ids) parts
parts_have ids [] all = tt
parts_have ids (part ∷ parts) all = (all.0, parts_have ids parts all.1)

-- headers have the size of their parts
headers_have : (ids : IdSize) (parts : List Given) → AllByRecursion (λ part. part.header.ids ≡ ids) parts → HaveSize ids (headers_of parts)
headers_have ids [] all = tt
headers_have ids (part ∷ parts) all = (all.0, headers_have ids parts all.1)

-- a header, where there is one
abbrev pub some_header : Option Header → List Header
some_header None = []
some_header (Some header) = header ∷ []

-- where there is no header there is no part
no_parts : (parts : List Given) → headers_of parts ≡ [] → parts ≡ []
no_parts [] e = refl
no_parts (part ∷ parts) e = absurd cc

-- where there is a least time there is a part
some_parts : (parts : List Given) (least : ℕ) → IsLeastOf (map (λ header. header.millis) (headers_of parts)) least → parts ≡ [] → ⊥
some_parts [] least l e = no_least least l
some_parts (part ∷ parts) least l e = cc

-- the facts with no mark are those that were given
pub holds_all : (given facts : List FactValue) → Holds given facts None → SameFacts facts given
holds_all given facts holds fact =
    (holds.was_given fact, λ has. elim (holds.each fact has) [ inl there ↦ there | inr none ↦ absurd none.0 ])

-- a key of two contents is not before the mark
mark_le : (given facts : List FactValue) (least key : Key) → Holds given facts (Some least) → HasConflict given key
    → key_le least key ≡ true
mark_le given facts least key holds c = elim (holds.each c.one c.has_one) [
  | inr m ↦ let marked = m.0 in at marked.0 c.one c.key_of_one marked.1 marked.2
  | inl here ↦ elim (holds.each c.other c.has_other) [
    | inr m ↦ let marked = m.0 in at marked.0 c.other c.key_of_other marked.1 marked.2
    | inl there ↦ absurd (c.differ (order_agrees facts holds.ordered key c.one c.other here there c.key_of_one c.key_of_other))
  ]
]
  where
    at : (k : Key) (fact : FactValue) → key_of fact ≡ Some key → key_of fact ≡ Some k → key_le least k ≡ true → key_le least key ≡ true
    at k fact e f le = let same : k ≡ key = cc in subst (λ (x : Key). key_le least x ≡ true) same le

-- the mark is the least conflict
pub holds_least : (given facts : List FactValue) (least : Key) → Holds given facts (Some least) → IsLeastConflict given least
holds_least given facts least holds = record { conflict = holds.has_mark; least = λ key c. mark_le given facts least key holds c }

-- a heap is sound, where there is one
abbrev pub IsSound : Option HeapValue → Type 0
IsSound None = Unit {0}
IsSound (Some heap) = IsHeap heap

-- what is told, by what the gatherer holds
tells_by : (parts : List Given) (heap : Option HeapValue) (two : Bool) (mark : Option Key)
    → Unites (headers_of parts) (all_given parts) heap two mark → IsSound heap → Tells parts (unconflicted heap mark two)
tells_by parts None true mark u sound = absurd u
tells_by parts None false mark u sound = no_parts parts u.no_headers
tells_by parts (Some heap) true mark u sound = λ ids all. u ids (headers_have ids parts all)
tells_by parts (Some heap) false (Some key) u sound = (
  (heap.ids, parts_have heap.ids parts u.one_size),
  some_parts parts heap.millis u.earliest,
  holds_least (all_given parts) heap.facts
      key u.holds,
)
tells_by parts (Some heap) false None u sound =
    let same = holds_all (all_given parts) heap.facts u.holds in (
      parts_have heap.ids parts u.one_size,
      subst (λ (all : List ℕ). IsLeastOf all heap.millis) (map-map (λ (header : Header). header.millis) (λ (part : Given).
          part.header) parts) u.earliest,
      IsConsistent-same heap.facts (all_given parts) same (order_agrees heap.facts u.holds.ordered),
      same,
      sound,
    )

-- what stands after parts is what the answer tells
pub tells : (parts : List Given) (g : Gathered) → Stands (headers_of parts) (all_given parts) g → IsSound g.heap → Tells parts (answer_of g)
tells parts g s sound = rw s.sound (tells_by parts g.heap g.two_sizes g.conflict s.unites sound)

-- each heap is sound
sound_heap : (heap : Option Heap) → IsSound (lent_heap heap)
sound_heap None = tt
sound_heap (Some heap) = heap.sound.heap

-- what a gatherer answers tells of the parts that it was given
pub told : (gatherer : Gatherer) (parts : List Given) → Gathers nothing_gathered parts (gathered gatherer)
    → Tells parts (answer_of (gathered gatherer))
told gatherer parts gathers = tells parts (gathered gatherer) (gathered_stands parts (gathered gatherer) gathers) (sound_heap gatherer.heap)

-- ---- want of memory

-- what is new to a heap is new among all that was given
new_among : (given facts : List FactValue) (mark : Option Key) (fact : FactValue) → Holds given facts mark → IsNewAmong facts fact
    → IsNewAmong given fact
new_among given facts mark fact holds fresh = record {
  is_new = λ other has one_key. elim (holds.each other has) [
    | inl there ↦ fresh.is_new other there one_key
    | inr differs ↦ by other differs.1 one_key
  ];
  absent = λ has. elim (holds.each fact has) [
    | inl there ↦ fresh.absent there
    | inr differs ↦ let there =
        differs.1 in fresh.is_new there.other there.has_other there.one_key
  ];
}
  where
    by : (other : FactValue) → HasOther facts other → HaveOneKey other fact → ⊥
    by other there one_key = fresh.is_new there.other there.has_other (HaveOneKey-trans there.other other fact there.one_key one_key)

-- where no two sizes were begun, the heap is the union
union_of : (headers : List Header) (given : List FactValue) (heap : Option HeapValue) (two : Bool) (mark : Option Key)
    (held : HeapValue) → Unites headers given heap two mark → two ≡ false → heap ≡ Some held
    → IsUnion headers given held mark
union_of headers given heap two mark held u one there =
    subst (λ (h : Option HeapValue). Unites headers given h false mark) there (subst (λ (t : Bool). Unites headers given heap t mark) one u)

-- a gatherer that took whole parts, and then, of another one, a header, where it has come, and facts
stands_within : (parts : List Given) (header : Option Header) (facts : List FactValue) (old new : Gathered)
    → Gathers nothing_gathered parts old → Run Begins Takes old header facts new
    → Stands (headers_of parts ++ some_header header) (all_given parts ++ facts) new
stands_within parts None facts old new gathers run =
    subst (λ (hs : List Header). Stands hs (all_given parts ++ facts) new) (sym (append-nil (headers_of parts)))
    (steps_stand (headers_of parts) (all_given parts) facts old new (gathered_stands parts old gathers) run)
stands_within parts (Some header) facts old new gathers run =
    steps_stand (headers_of parts ++ header ∷ []) (all_given parts) facts run.0 new
    (begins_stands (headers_of parts) (all_given parts) old header run.0 (gathered_stands parts old gathers) run.1) run.2

-- the headers of whole parts and of one more have one size
one_size_of : (parts : List Given) (header : Option Header) (ids : IdSize) → HaveSize ids (headers_of parts ++ some_header header)
    → HaveOneSize parts header
one_size_of parts None ids all = (ids, parts_have ids parts (subst (HaveSize ids) (append-nil (headers_of parts)) all))
one_size_of parts (Some header) ids all =
    let each = HaveSize-parts ids (headers_of parts) header all in
    parts_have header.ids parts (subst (λ (size : IdSize). HaveSize size (headers_of parts)) (sym each.1) each.0)

-- a fact for which a gatherer lacks a row is new among all that was given to it, and what was given has one size
pub new_behind : (parts : List Given) (header : Option Header) (before given : List FactValue) (old new : Gathered)
    → Gathers nothing_gathered parts old → Run Begins Takes old header before new → LacksRow new given
    → IsNewBehind parts header before given
new_behind parts header before [] old new gathers run lacks = absurd lacks
new_behind parts header before (fact ∷ rest) old new gathers run lacks =
    let stands = stands_within parts header before old new gathers run in
    let held = lacks.1.0 in
    let union = union_of (headers_of parts ++ some_header header) (all_given parts ++ before) new.heap new.two_sizes new.conflict held
    stands.unites lacks.0 lacks.1.1 in (
      one_size_of parts header held.ids union.one_size,
      new_among (all_given parts ++ before) held.facts new.conflict fact union.holds
          lacks.1.2,
    )
