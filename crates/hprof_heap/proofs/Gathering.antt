-- What a gatherer holds after the parts that it was given.
use Rattle.std.proofs.Common.{◌≡◌, ℕ, min, Bool, true, false, not, ◌||◌, cond, List, [], ◌∷◌, ◌++◌, map, Option, Some, None, refl, sym, ap}
use Rattle.std.proofs.Common.{subst, ◌∙◌, append_assoc}
use Rattle.std.specs.List.{AllByRecursion}
use Rattle.std.proofs.lemmas.List.{append-nil, map-append}
use Rattle.hprof_items.specs.declared.header.Header.{Header}
use Rattle.hprof_values.specs.declared.ids.IdSize.{IdSize}
use Rattle.hprof_values.specs.declared.ids.IdSize.TheVariants.{Four, Eight}
use Rattle.hprof_items.specs.FactValue.{FactValue}
use Rattle.hprof_stream.specs.Run.{Steps}
use Rattle.hprof_rows.specs.declared.key.Key.{Key}
use Rattle.hprof_tables.specs.declared.relation.Stated.{Stated}
use Rattle.hprof_tables.specs.declared.relation.Stated.TheVariants.{New, Same, Differs}
use Rattle.hprof_heap.specs.State.{IsLeastOf}
use Rattle.hprof_rows.specs.HeapValue.{HeapValue}
use Rattle.hprof_heap.specs.Gathering.{Gathered, Given, nothing_gathered, same_size, begun_heap, has_other_size}
use Rattle.hprof_heap.specs.Gathering.{Begins, TakesInto, TakesHeap}
use Rattle.hprof_heap.specs.Gathering.{Takes, Gathers, all_given}
use Rattle.hprof_heap.proofs.Least.{no_least, IsLeastOf-one, IsLeastOf-push}
use Rattle.hprof_heap.proofs.Marks.{Holds, holds_new, holds_same, holds_differs}

-- ---- what a heap says of the parts

-- the headers have one size
abbrev pub HaveSize : IdSize → List Header → Type 0
HaveSize ids headers = AllByRecursion (λ header. header.ids ≡ ids) headers

-- the headers have no one size
abbrev pub HaveSizes : List Header → Type 0
HaveSizes headers = (ids : IdSize) → HaveSize ids headers → ⊥

-- the heap has the size and the least time of these headers, and holds these facts
pub record IsUnion (headers : List Header) (given : List FactValue) (heap : HeapValue) (mark : Option Key) : Type 0 where
  pub one_size : HaveSize heap.ids headers
  pub earliest : IsLeastOf (map (λ header. header.millis) headers) heap.millis
  pub holds : Holds given heap.facts mark

-- nothing came so far
pub record IsNothing (headers : List Header) (given : List FactValue) (mark : Option Key) : Type 0 where
  pub no_headers : headers ≡ []
  pub no_facts : given ≡ []
  pub no_mark : mark ≡ None

-- what a gatherer that has not failed says of the headers and facts that it was given
abbrev pub Unites : List Header → List FactValue → Option HeapValue → Bool → Option Key → Type 0
Unites headers given None true mark = ⊥
Unites headers given None false mark = IsNothing headers given mark
Unites headers given (Some heap) true mark = HaveSizes headers
Unites headers given (Some heap) false mark = IsUnion headers given heap mark

-- a gatherer that has not failed, and what it says of the headers and facts that it was given
pub record Stands (headers : List Header) (given : List FactValue) (g : Gathered) : Type 0 where
  pub sound : g.failed ≡ false
  pub unites : Unites headers given g.heap g.two_sizes g.conflict

-- the same said of equal parts of a gatherer
Unites-same : (headers : List Header) (given : List FactValue) (heap other : Option HeapValue) (two more : Bool)
    (mark after : Option Key) → other ≡ heap → more ≡ two → after ≡ mark
    → Unites headers given heap two mark → Unites headers given other more after
Unites-same headers given heap other two more mark after e f g u =
    subst (λ (h : Option HeapValue). Unites headers given h more after) (sym e)
    (subst (λ (t : Bool). Unites headers given heap t after) (sym f) (subst (λ (m : Option Key). Unites headers given heap two m)
    (sym g) u))

-- ---- a header

-- sizes that the test finds equal are one
same_size-true : (ids other : IdSize) → same_size ids other ≡ true → other ≡ ids
same_size-true Four Four e = refl
same_size-true Four Eight e = absurd cc
same_size-true Eight Four e = absurd cc
same_size-true Eight Eight e = refl

-- each size is its own
same_size-refl : (ids : IdSize) → same_size ids ids ≡ true
same_size-refl Four = refl
same_size-refl Eight = refl

-- one more header of that size
HaveSize-more : (ids : IdSize) (headers : List Header) (header : Header) → HaveSize ids headers → header.ids ≡ ids
    → HaveSize ids (headers ++ header ∷ [])
HaveSize-more ids [] header all e = (e, tt)
HaveSize-more ids (first ∷ headers) header all e = (all.0, HaveSize-more ids headers header all.1 e)

-- all headers of one size, and the last of them
pub HaveSize-parts : (ids : IdSize) (headers : List Header) (header : Header) → HaveSize ids (headers ++ header ∷ []) → HaveSize ids headers
    × (header.ids ≡ ids)
HaveSize-parts ids [] header all = (tt, all.0)
HaveSize-parts ids (first ∷ headers) header all = let rest = HaveSize-parts ids headers header all.1 in ((all.0, rest.0), rest.1)

-- the least of one more time
IsLeastOf-more : (headers : List Header) (header : Header) (least : ℕ) → IsLeastOf (map (λ header. header.millis) headers) least
    → IsLeastOf (map (λ header. header.millis) (headers ++ header ∷ [])) (min least header.millis)
IsLeastOf-more headers header least is =
    rw map-append (IsLeastOf-push (map (λ (header : Header). header.millis) headers) header.millis least is)

-- another size than that of the headers so far
two_sizes : (headers : List Header) (header : Header) (heap : HeapValue) (least : ℕ) → HaveSize heap.ids headers
    → IsLeastOf (map (λ header. header.millis) headers) least
    → same_size heap.ids header.ids ≡ false → HaveSizes (headers ++ header ∷ [])
two_sizes [] header heap least one_size l apart ids all = absurd (no_least least l)
two_sizes (first ∷ headers) header heap least one_size l apart ids all =
    let p = HaveSize-parts ids (first ∷ headers) header all in
    let e : header.ids ≡ heap.ids = p.1 ∙ sym p.0.0 ∙ one_size.0 in
    let yes : same_size heap.ids header.ids ≡ true = ap (same_size heap.ids) e ∙ same_size-refl heap.ids in
    absurd cc

-- the heap of the first header
first_union : (headers : List Header) (given : List FactValue) (mark : Option Key) (header : Header) → IsNothing headers given mark
    → IsUnion (headers ++ header ∷ []) given (record { ids = header.ids; millis = header.millis; facts = [] }) mark
first_union headers given mark header nothing = rw (nothing.no_headers, nothing.no_facts, nothing.no_mark) (record {
  one_size = (refl, tt);
  earliest = IsLeastOf-one header.millis;
  holds = record { ordered = tt; was_given = λ fact has. has; each = λ fact has. absurd has; has_mark = tt };
})

-- one more header, by whether its size is that of the heap
begins_union : (t : Bool) (headers : List Header) (given : List FactValue) (heap : HeapValue) (mark : Option Key) (header : Header)
    → same_size heap.ids header.ids ≡ t
    → IsUnion headers given heap mark
    → Unites (headers ++ header ∷ []) given (Some (cond t (record heap { millis = min heap.millis header.millis }) heap)) (not t) mark
begins_union true headers given heap mark header e u = record {
  one_size = HaveSize-more heap.ids headers header u.one_size (same_size-true heap.ids header.ids e);
  earliest = IsLeastOf-more headers header heap.millis u.earliest;
  holds = u.holds;
}
begins_union false headers given heap mark header e u = two_sizes headers header heap heap.millis u.one_size u.earliest e

-- one more header, by what came before it
begins_unites : (headers : List Header) (given : List FactValue) (heap : Option HeapValue) (two : Bool) (mark : Option Key)
    (header : Header) → Unites headers given heap two mark
    → Unites (headers ++ header ∷ []) given (Some (begun_heap heap header)) (two || has_other_size heap header) mark
begins_unites headers given None true mark header u = absurd u
begins_unites headers given None false mark header u = first_union headers given mark header u
begins_unites headers given (Some heap) true mark header u = λ ids all. u ids (HaveSize-parts ids headers header all).0
begins_unites headers given (Some heap) false mark header u =
    begins_union (same_size heap.ids header.ids) headers given heap mark header refl u

-- a gatherer that began a part
pub begins_stands : (headers : List Header) (given : List FactValue) (old : Gathered) (header : Header) (new : Gathered)
    → Stands headers given old → Begins old header new → Stands (headers ++ header ∷ []) given new
begins_stands headers given old header new s b = record {
  sound = b.sound;
  unites = Unites-same (headers ++ header ∷ []) given (Some (begun_heap old.heap header)) new.heap
      (old.two_sizes || has_other_size old.heap header) new.two_sizes old.conflict new.conflict b.heap b.two_sizes b.conflict
      (begins_unites headers given old.heap old.two_sizes old.conflict header s.unites);
}

-- ---- a fact

-- a fact that the heap took
takes_union : (stated : Stated) (headers : List Header) (given : List FactValue) (heap : HeapValue) (mark : Option Key)
    (fact : FactValue) (new : HeapValue) (after : Option Key)
    → IsUnion headers given heap mark → TakesInto heap mark fact stated new after → IsUnion headers (given ++ fact ∷ []) new after
takes_union New headers given heap mark fact new after u t = rw t.1 (record {
  one_size = subst (λ (ids : IdSize). HaveSize ids headers) (sym t.0.ids) u.one_size;
  earliest = subst (IsLeastOf (map (λ (header : Header). header.millis) headers)) (sym t.0.millis) u.earliest;
  holds = holds_new given heap mark fact new u.holds t.0;
})
takes_union Same headers given heap mark fact new after u t = rw (t.0.1, t.1) (record {
  one_size = u.one_size;
  earliest = u.earliest;
  holds = holds_same given heap.facts mark fact u.holds t.0.0;
})
takes_union Differs headers given heap mark fact new after u t = rw (t.0.1, t.1) (record {
  one_size = u.one_size;
  earliest = u.earliest;
  holds = holds_differs given heap.facts mark fact u.holds t.0.0;
})

-- a fact that the gatherer took, or with two sizes passed over
takes_unites : (headers : List Header) (given : List FactValue) (two : Bool) (old : Option HeapValue) (mark : Option Key)
    (fact : FactValue) (new : Option HeapValue) (after : Option Key)
    → Unites headers given old two mark → TakesHeap two old mark fact new after → Unites headers (given ++ fact ∷ []) new two after
takes_unites headers given true None mark fact new after u t = absurd u
takes_unites headers given true (Some heap) mark fact new after u t =
    subst (λ (h : Option HeapValue). Unites headers (given ++ fact ∷ []) h true after) (sym t.0) u
takes_unites headers given false None mark fact new after u t = absurd t
takes_unites headers given false (Some heap) mark fact None after u t = absurd t
takes_unites headers given false (Some heap) mark fact (Some new) after u t = takes_union t.0 headers given heap mark fact new after u t.1

-- a gatherer that took a fact
takes_stands : (headers : List Header) (given : List FactValue) (old : Gathered) (fact : FactValue) (new : Gathered)
    → Stands headers given old → Takes old fact new → Stands headers (given ++ fact ∷ []) new
takes_stands headers given old fact new s t = record {
  sound = t.sound;
  unites = Unites-same headers (given ++ fact ∷ []) new.heap new.heap old.two_sizes new.two_sizes new.conflict new.conflict refl
      t.two_sizes refl
      (takes_unites headers given old.two_sizes old.heap old.conflict fact new.heap new.conflict s.unites t.taken);
}

-- ---- whole parts

-- a gatherer that took facts
pub steps_stand : (headers : List Header) (given facts : List FactValue) (old new : Gathered) → Stands headers given old
    → Steps Begins Takes old facts new → Stands headers (given ++ facts) new
steps_stand headers given [] old new s e = subst (λ (all : List FactValue). Stands headers all new) (sym (append-nil given))
    (subst (Stands headers given) e s)
steps_stand headers given (fact ∷ facts) old new s r =
    subst (λ (all : List FactValue). Stands headers all new) (append_assoc given (fact ∷ []) facts)
    (steps_stand headers (given ++ fact ∷ []) facts r.0 new (takes_stands headers given old fact r.0 s r.1) r.2)

-- the headers of parts
abbrev pub headers_of : List Given → List Header
headers_of parts = map (λ part. part.header) parts

-- a gatherer that took parts
gathers_stand : (headers : List Header) (given : List FactValue) (parts : List Given) (old new : Gathered) → Stands headers given old
    → Gathers old parts new
    → Stands (headers ++ headers_of parts) (given ++ all_given parts) new
gathers_stand headers given [] old new s e =
    subst (λ (all : List Header). Stands all (given ++ []) new) (sym (append-nil headers))
    (subst (λ (all : List FactValue). Stands headers all new) (sym (append-nil given)) (subst (Stands headers given) e s))
gathers_stand headers given (part ∷ parts) old new s g =
    let begun = begins_stands headers given old part.header g.1.0 s g.1.1 in
    let one = steps_stand (headers ++ part.header ∷ []) given part.facts g.1.0 g.0 begun g.1.2 in
    let all = gathers_stand (headers ++ part.header ∷ []) (given ++ part.facts) parts g.0 new one g.2 in
    subst (λ (hs : List Header). Stands hs (given ++ all_given (part ∷ parts)) new) (append_assoc headers (part.header ∷ [])
    (headers_of parts))
    (subst (λ (fs : List FactValue). Stands ((headers ++ part.header ∷ []) ++ headers_of parts) fs new)
    (append_assoc given part.facts (all_given parts)) all)

-- what stands after parts
pub gathered_stands : (parts : List Given) (g : Gathered) → Gathers nothing_gathered parts g → Stands (headers_of parts) (all_given parts) g
gathered_stands parts g gathers =
    gathers_stand [] [] parts nothing_gathered g (record {
      sound = refl;
      unites = record {
        no_headers = refl;
        no_facts = refl;
        no_mark =
            refl;
      };
    }) gathers
