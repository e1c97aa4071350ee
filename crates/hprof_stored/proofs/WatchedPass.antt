-- What a sink took that watched the reading of one part, as what a pass over the stored objects gives it.
use Rattle.std.proofs.Common.{◌≡◌, ℕ, zero, suc, List, [], ◌∷◌, length, map, Option, Some, inl, inr, refl, ap, subst, ◌∙◌}
use Rattle.std.proofs.Common.{arith}
use Rattle.std.specs.List.{AllByRecursion}
use Rattle.hprof_values.specs.declared.ids.IdSize.{IdSize}
use Rattle.hprof_items.specs.FactValue.{FactValue, Instance, ObjArray, PrimArray}
use Rattle.hprof_devices.specs.declared.health.Health.{Health}
use Rattle.hprof_stream.specs.declared.limits.Limits.{Limits}
use Rattle.hprof_rows.specs.Facts.{AllFit}
use Rattle.hprof_heap.specs.Heap.{heap_of}
use Rattle.hprof_merge.specs.Rows.{ByteRow, Has, IsAscending}
use Rattle.hprof_merge.specs.Union.{IsUnion, rows_at}
use Rattle.hprof_merge.proofs.Unions.{union_unique}
use Rattle.hprof_objects.specs.ObjectRows.{object_rows}
use Rattle.hprof_objects.specs.StoredObjects.{objects_of}
use Rattle.hprof_objects.specs.Whole.{AreObjects, FitGiven, rows_given}
use Rattle.hprof_objects.proofs.Whole.{one_object}
use Rattle.hprof_passes.specs.Passing.{TakesObjects, objects_among}
use Rattle.hprof_engine.specs.Joining.{Agree}
use Rattle.hprof_stored.specs.declared.in_parts.InParts.{InParts}
use Rattle.hprof_stored.specs.declared.stored_heap.StoredHeap.{StoredHeap}
use Rattle.hprof_stored.specs.InParts.{AreStoredOf, limits_under}
use Rattle.hprof_stored.specs.Parts.{AreStored, PartStored, all_read, given_of}
use Rattle.hprof_stored.specs.Watching.{Watched, WatchesParts}
use Rattle.hprof_stored.proofs.Joined.{StandBehind, TellWhole}
use Rattle.hprof_stored.proofs.MadeUp.{ComeToOne, InOrder, agreed_made_up, all_union, fit, sizes}

-- ---- the objects among facts

-- objects that have the same rows are the same
same_objects : (ids : IdSize) (rows : List ByteRow) (objects others : List FactValue) → AreObjects ids rows objects
    → AreObjects ids rows others → objects ≡ others
same_objects ids [] [] [] are too = refl
same_objects ids [] [] (other ∷ others) are too = absurd too
same_objects ids [] (object ∷ objects) others are too = absurd are
same_objects ids (row ∷ rows) [] others are too = absurd are
same_objects ids (row ∷ rows) (object ∷ objects) [] are too = absurd too
same_objects ids (row ∷ rows) (object ∷ objects) (other ∷ others) are too =
    ap (λ (o : FactValue). o ∷ objects) (one_object ids object other row are.1 too.1 are.0 too.0)
    ∙ ap (λ (l : List FactValue). other ∷ l) (same_objects ids rows objects others are.2 too.2)

-- their rows are those of the facts
are_among : (ids : IdSize) (facts : List FactValue) → AllFit ids facts → AreObjects ids (object_rows ids facts) (objects_among facts)
are_among ids [] fits = tt
are_among ids (Instance id trace class bytes ∷ facts) fits =
    (fits _ (inl refl), refl, are_among ids facts (λ fact has. fits fact (inr has)))
are_among ids (ObjArray id trace class elements ∷ facts) fits =
    (fits _ (inl refl), refl, are_among ids facts (λ fact has. fits fact (inr has)))
are_among ids (PrimArray id trace elem bytes ∷ facts) fits =
    (fits _ (inl refl), refl, are_among ids facts (λ fact has. fits fact (inr has)))
are_among ids (fact ∷ facts) fits = are_among ids facts (λ other has. fits other (inr has))

-- ---- one part

-- a list that ascends is its own union
in_one : (rows : List ByteRow) (row : ByteRow) (place : ℕ) → Has (rows_at (rows ∷ []) place) row → Has rows row
in_one rows row zero has = has
in_one rows row (suc place) has = absurd has

own_union : (rows : List ByteRow) → IsAscending rows → IsUnion (rows ∷ []) rows
own_union rows ascend =
    record { ascends = ascend; same = λ row. ((λ has. (0, has)), (λ any. in_one rows row any.0 any.1)) }

-- as many parts as readers
as_many_parts : {R : Type 0} (left : R → Option (List ℕ)) (limits : Limits) (readers : List R) (parts : List PartStored)
    → AreStored limits (map left readers) parts → length parts ≡ length readers
as_many_parts left limits [] [] are = refl
as_many_parts left limits [] (part ∷ parts) are = absurd are
as_many_parts left limits (reader ∷ readers) [] are = absurd are
as_many_parts left limits (reader ∷ readers) (part ∷ parts) are = ap suc (as_many_parts left limits readers parts are.1)

module _ {T : Type 0} (takes : T → IdSize → FactValue → T → Type 0) (ids : IdSize) (all : List FactValue) (start now : T)
    (are : AreObjects ids (object_rows ids all) (objects_among all)) where
  -- the objects of the part are all objects
  took_of_one : (parts : List PartStored) → length parts ≡ 1 → AllByRecursion (λ part. part.header.ids ≡ ids) (given_of parts)
      → FitGiven (given_of parts) → IsUnion (objects_of (all_read parts)) (object_rows ids all) → WatchesParts takes start parts now
      → TakesObjects takes ids start (objects_among all) now
  took_of_one [] one same_size fits union watches = absurd (omega (arith, one))
  took_of_one (part ∷ other ∷ parts) one same_size fits union watches = absurd (omega (arith, one))
  took_of_one (part ∷ []) one same_size fits union watches =
      let rows = rows_given part.given in
      let mine = objects_among part.given.facts in
      let same_rows : object_rows ids all ≡ rows =
      union_unique (rows ∷ []) (object_rows ids all) rows union (own_union rows watches.1.ascend) in
      let same : mine ≡ objects_among all =
      same_objects ids rows mine (objects_among all)
      (subst (λ (i : IdSize). AreObjects i rows mine) same_size.0 (are_among part.given.header.ids part.given.facts fits.0))
      (subst (λ (l : List ByteRow). AreObjects ids l (objects_among all)) same_rows are) in
      subst (λ (t : T). TakesObjects takes ids start (objects_among all) t) watches.2
      (subst (λ (l : List FactValue). TakesObjects takes ids start l watches.0) same
      (subst (λ (i : IdSize). TakesObjects takes i start mine watches.0) same_size.0 watches.1.took))

module _ {R S P T : Type 0} (left : R → Option (List ℕ)) (written : S → Option (List ℕ)) (health : S → Health)
    (bytes : P → List (Option (List ℕ))) (takes : T → IdSize → FactValue → T → Type 0) (readers : List R) (scratch : Option (List ℕ))
    (stored : StoredHeap S) (it : InParts S P) (told : List (List ℕ))
    (are : AreStoredOf left written health bytes readers scratch stored it told) where
  pub watched_pass : InOrder → StandBehind → TellWhole → ComeToOne → (ids : IdSize) (millis : ℕ) (all : List FactValue)
      → Agree told ids millis all → length readers ≡ 1 → (start now : T) → Watched takes (Some start) are.holds.parts (Some now)
      → TakesObjects takes (heap_of stored.heap).ids start (objects_among all) now
  watched_pass in_order behind whole one ids millis all agreement single start now watched =
      let made = agreed_made_up left written health bytes readers scratch stored it told are in_order behind whole one ids millis all
      agreement in
      took_of_one takes (heap_of stored.heap).ids all start now (are_among (heap_of stored.heap).ids all made.2.whole.fit) are.holds.parts
      (as_many_parts left (limits_under it) readers are.holds.parts are.holds.stored ∙ single)
      (sizes left written health bytes readers scratch stored it told are)
      (fit left written health bytes readers scratch stored it told are)
      (all_union left written health bytes readers scratch stored it told are in_order behind whole one ids millis all agreement) watched
