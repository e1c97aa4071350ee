-- What the laws of stored objects say of the parts that were read, and of counts that watched them.
use Rattle.std.proofs.Common.{◌≡◌, ℕ, List, length, Option, Some, None, refl, sym, subst}
use Rattle.std.specs.Prelude.{IfSome, IsSome}
use Rattle.hprof_devices.specs.declared.health.Health.{Health}
use Rattle.hprof_values.specs.declared.ids.IdSize.{IdSize}
use Rattle.hprof_items.specs.FactValue.{FactValue}
use Rattle.hprof_rows.specs.declared.key.Key.TheVariants as keys
use Rattle.hprof_heap.specs.Heap.{heap_of}
use Rattle.hprof_heap.specs.HeapFacts.{facts_of, size_of}
use Rattle.hprof_passes.specs.Passing.{TakesObjects, objects_among}
use Rattle.hprof_histogram.specs.declared.counted_kinds.CountedKinds.{CountedKinds}
use Rattle.hprof_histogram.specs.CountedKinds.{CountsObject, IsTally}
use Rattle.hprof_histogram.specs.Known.{MadeUpWith}
use Rattle.hprof_objects.specs.declared.stored_objects.StoredObjects.{StoredObjects}
use Rattle.hprof_objects.specs.StoredObjects.{IsOneStretch}
use Rattle.hprof_engine.specs.Joining.{Agree, Disagree}
use Rattle.hprof_stored.specs.declared.in_parts.InParts.{InParts}
use Rattle.hprof_stored.specs.declared.in_parts_fault.InPartsFault.{InPartsFault}
use Rattle.hprof_stored.specs.declared.in_parts_fault.InPartsFault.TheVariants.{TwoContents}
use Rattle.hprof_stored.specs.declared.stored_heap.StoredHeap.{StoredHeap}
use Rattle.hprof_stored.specs.InParts.{AreStoredOf, HaveUnion, IsOfSame, MakeUp, TellsPass, objects_under}
use Rattle.hprof_stored.specs.Parts.{PartStored}
use Rattle.hprof_stored.specs.Watching.{Watched}
use Rattle.hprof_making.specs.Watching.{StartsTally}
use Rattle.hprof_making.proofs.Made.{AreOfParts}
use Rattle.hprof_making.proofs.StoredOf.{AreWatchedOf}

-- what is known is what watched, which took all objects
tally_of_known : (One : Type 0) (parts : List PartStored) (ids : IdSize) (all : List FactValue) (start now known : Option CountedKinds)
    → (IsSome start → One) → IfSome start StartsTally → (IsSome known → known ≡ now) → Watched CountsObject start parts now
    → ((first last : CountedKinds) → One → Watched CountsObject (Some first) parts (Some last)
    → TakesObjects CountsObject ids first (objects_among all) last) → IfSome known (λ counts. IsTally ids all counts)
tally_of_known One parts ids all start now None watches tally same watched took = tt
tally_of_known One parts ids all None None (Some counts) watches tally same watched took = let e = same refl in absurd cc
tally_of_known One parts ids all None (Some last) (Some counts) watches tally same watched took = absurd watched
tally_of_known One parts ids all (Some first) None (Some counts) watches tally same watched took = let e = same refl in absurd cc
tally_of_known One parts ids all (Some first) (Some last) (Some counts) watches tally same watched took =
    let e = same refl in
    let is : last ≡ counts = cc in
    subst (IsTally ids all) is (tally ids all last (took first last (watches refl) watched))

module _ {R S P : Type 0} (left : R → Option (List ℕ)) (written : S → Option (List ℕ)) (health : S → Health) (unreadable : S → Type 0)
    (bytes : P → List (Option (List ℕ))) where
  -- the objects make up the facts on which the parts agree
  abbrev pub MakesUp : Type 0
  MakesUp = (readers : List R) (scratch : Option (List ℕ)) (stored : StoredHeap S) (it : InParts S P) (told : List (List ℕ)) (ids : IdSize)
      (millis : ℕ) (all : List FactValue) → AreStoredOf left written health bytes readers scratch stored it told → Agree told ids millis all
      → (ids ≡ size_of stored.heap) × (millis ≡ (heap_of stored.heap).millis)
      × MakeUp written health bytes it (size_of stored.heap) (facts_of stored.heap) all

  -- if the objects have a union, the parts agree
  abbrev pub MakesAgree : Type 0
  MakesAgree = (readers : List R) (scratch : Option (List ℕ)) (stored : StoredHeap S) (it : InParts S P) (told : List (List ℕ))
      → AreStoredOf left written health bytes readers scratch stored it told → HaveUnion written health bytes it
      → (all : List FactValue) × Agree told (size_of stored.heap) (heap_of stored.heap).millis all

  -- if they have two contents, the parts do not
  abbrev pub MakesDisagree : Type 0
  MakesDisagree = (readers : List R) (scratch : Option (List ℕ)) (stored : StoredHeap S) (it : InParts S P) (told : List (List ℕ)) (id : ℕ)
      → AreStoredOf left written health bytes readers scratch stored it told
      → TellsPass written health bytes unreadable it (size_of stored.heap) (facts_of stored.heap) (TwoContents id)
      → Disagree told (keys.Object id)

  -- no part has changed, and no scratch is damaged
  abbrev pub IsSame : Type 0
  IsSame = (readers : List R) (scratch : Option (List ℕ)) (stored : StoredHeap S) (it : InParts S P) (told : List (List ℕ))
      (fault : InPartsFault) → AreStoredOf left written health bytes readers scratch stored it told
      → TellsPass written health bytes unreadable it (size_of stored.heap) (facts_of stored.heap) fault → IsOfSame fault

  -- if the objects are one stretch, they have a union
  abbrev pub HaveOne : Type 0
  HaveOne = (it : InParts S P) → IsOneStretch (objects_under it) → HaveUnion written health bytes it

  -- what watched one part took what a pass gives
  abbrev pub TakesAll : Type 0
  TakesAll = (readers : List R) (scratch : Option (List ℕ)) (stored : StoredHeap S) (it : InParts S P) (told : List (List ℕ)) (ids : IdSize)
      (millis : ℕ) (all : List FactValue) (start now : CountedKinds)
      → (are : AreStoredOf left written health bytes readers scratch stored it told) → length readers ≡ 1
      → Watched CountsObject (Some start) are.holds.parts (Some now) → Agree told ids millis all
      → TakesObjects CountsObject (size_of stored.heap) start (objects_among all) now

  module _ (readers : List R) (scratch : Option (List ℕ)) (stored : StoredHeap S) (it : InParts S P) (start now known : Option CountedKinds)
    where
      -- counts watched one reader, and are known if the objects are one stretch
      pub record AreKnown : Type 0 where
        pub watches : IsSome start → length readers ≡ 1
        pub tally : IfSome start StartsTally
        pub objects : StoredObjects S
        pub under : objects_under it ≡ objects
        pub one : IsSome known → IsOneStretch objects
        pub same : IsOneStretch objects → known ≡ now

      -- if counts are known, no identifier has two contents
      pub known_agree : HaveOne → AreKnown → IsSome known → HaveUnion written health bytes it
      known_agree have are_known some = have it (subst (λ (o : StoredObjects S). IsOneStretch o) (sym are_known.under) (are_known.one some))

      module _ (takes_all : TakesAll) (are_known : AreKnown) (told : List (List ℕ))
          (watched : AreWatchedOf left written health bytes CountsObject readers scratch stored it start now told) where
        -- what is known is the tally of the facts on which the parts agree
        known_tally : (ids : IdSize) (millis : ℕ) (all : List FactValue) → Agree told ids millis all
            → IfSome known (λ counts. IsTally (size_of stored.heap) all counts)
        known_tally ids millis all agreement =
            tally_of_known (length readers ≡ 1) watched.are.holds.parts (size_of stored.heap) all start now known are_known.watches
            are_known.tally (λ some. are_known.same (are_known.one some)) watched.watched
            (λ first last one watched_parts.
            takes_all readers scratch stored it told ids millis all first last watched.are one watched_parts agreement)

        pub of_parts : MakesUp → MakesAgree → MakesDisagree → IsSame
            → AreOfParts (heap_of stored.heap)
            (MadeUpWith (MakeUp written health bytes it (size_of stored.heap) (facts_of stored.heap)) (size_of stored.heap) known)
            (HaveUnion written health bytes it) (TellsPass written health bytes unreadable it (size_of stored.heap) (facts_of stored.heap))
            told
        unfolding facts_of size_of
        of_parts makes_up agree disagree same = record {
          agree = λ have. agree readers scratch stored it told watched.are have;
          made_up = λ ids millis all agreement.
              let made = makes_up readers scratch stored it told ids millis all watched.are agreement in
              (made.0, made.1, (made.2, known_tally ids millis all agreement));
          contents = λ id tells. disagree readers scratch stored it told id watched.are tells;
          same = λ fault tells. same readers scratch stored it told fault watched.are tells;
        }
