-- What the heap without objects and the stored objects say of the parts.
use Rattle.std.proofs.Common.{◌≡◌, ℕ, zero, suc, List, [], ◌∷◌, ◌++◌, length, map, take, Option, Some, Ok, Err, refl, sym, ap, subst}
use Rattle.std.specs.Prelude.{slice_get, ⊤}
use Rattle.std.specs.List.{AllByRecursion}
use Rattle.std.proofs.Math.Seq.{take-length}
use Rattle.hprof_devices.specs.declared.health.Health.{Health}
use Rattle.hprof_values.specs.declared.ids.IdSize.{IdSize}
use Rattle.hprof_items.specs.FactValue.{FactValue}
use Rattle.hprof_stream.specs.declared.limits.Limits.{Limits}
use Rattle.hprof_rows.specs.declared.key.Key.TheVariants as keys
use Rattle.hprof_rows.specs.HeapValue.{HeapValue}
use Rattle.hprof_heap.specs.declared.standing.Refusal.TheVariants as refusals
use Rattle.hprof_heap.specs.Gathering.{Given, Tells}
use Rattle.hprof_merge.specs.Rows.{ByteRow}
use Rattle.hprof_merge.specs.TwoContents.{IsLeastWithTwoContents}
use Rattle.hprof_merge.specs.Union.{IsUnion}
use Rattle.hprof_parts.specs.Parts.{bytes_at}
use Rattle.hprof_segments.specs.declared.segment_fault.SegmentFault.{SegmentFault}
use Rattle.hprof_objects.specs.declared.object_fault.ObjectFault.{ObjectFault}
use Rattle.hprof_objects.specs.declared.object_fault.ObjectFault.TheVariants as stops
use Rattle.hprof_objects.specs.declared.stored_objects.StoredObjects.{StoredObjects}
use Rattle.hprof_objects.specs.declared.stretch_fault.StretchFault.TheVariants as stretches
use Rattle.hprof_objects.specs.MergedObjects.{TellsChange}
use Rattle.hprof_objects.specs.PartsRead.{PartRead}
use Rattle.hprof_runs.specs.declared.run_fault.RunFault.TheVariants as runs
use Rattle.hprof_objects.specs.ReadAgain.{IsSame, IsSameAt}
use Rattle.hprof_objects.specs.StoredObjects.{AreToldAgain, HoldsObjects, objects_of}
use Rattle.hprof_objects.specs.Whole.{AreObjects, FitGiven, rows_given, with_objects, without_objects}
use Rattle.hprof_engine.specs.Joining.{Agree, AreGiven, Tell}
use Rattle.hprof_engine.proofs.Answers.{agree, disagree}
use Rattle.hprof_engine.proofs.Together.{part_fits}
use Rattle.hprof_objects.specs.StretchFault.{ByFault}
use Rattle.hprof_runs.specs.RunFault.{IfDamaged}
use Rattle.hprof_stored.specs.Dumping.{IsOfTarget, FindsLeast}
use Rattle.hprof_stored.specs.StoredMaking.{IsOfLoss, pass_fault}
use Rattle.hprof_stored.specs.Parts.{AreStored, PartStored, all_read, given_of, others_of, read_of}
use Rattle.hprof_stored.proofs.FrontRead.{whole_states_first}

-- ---- parts that are read again

module _ (limits : Limits) where
  same_part : (parts : List (List ℕ)) (stored : List PartStored) → AreStored limits (map Some parts) stored → (number : ℕ) (part : PartRead)
      → slice_get (all_read stored) number ≡ Some part → IsSame limits (bytes_at (map Some parts) number) part
  same_part [] [] are number part e = absurd cc
  same_part [] (first ∷ stored) are number part e = absurd are
  same_part (bytes ∷ parts) [] are number part e = absurd are
  same_part (bytes ∷ parts) (first ∷ stored) are zero part e =
      let same : read_of first ≡ part = cc in
      subst (IsSame limits (Some bytes)) same (record {
        tells = ap Some (sym are.0.all);
        states = whole_states_first limits first.bytes first.given.header.ids first.given.header.millis first.given.facts are.0.accepted
            are.0.states;
      })
  same_part (bytes ∷ parts) (first ∷ stored) are (suc number) part e = same_part parts stored are.1 number part e

  pub told_again : {S : Type 0} (written : S → Option (List ℕ)) (health : S → Health) (parts : List (List ℕ)) (stored : List PartStored)
      (told : List (Option (List ℕ))) (objects : StoredObjects S) → told ≡ map Some parts → AreStored limits (map Some parts) stored
      → HoldsObjects written health limits (all_read stored) objects
      → AreToldAgain written health limits told (all_read stored) objects
  told_again written health parts stored told objects is are holds = record {
    holds = holds;
    same = λ number. subst (λ (t : List (Option (List ℕ))). IsSameAt limits t (all_read stored) number) (sym is)
        (same_part parts stored are number);
  }

  pub fits : (parts : List (List ℕ)) (stored : List PartStored) → AreStored limits (map Some parts) stored → FitGiven (given_of stored)
  fits [] [] are = tt
  fits [] (first ∷ stored) are = absurd are
  fits (bytes ∷ parts) [] are = absurd are
  fits (bytes ∷ parts) (first ∷ stored) are = (
    part_fits first.bytes first.given.header.ids first.given.header.millis first.given.facts are.0.states,
    fits parts stored are.1,
  )

-- want of memory and a fault of the target tell of no change
pub no_change : {S : Type 0} (written : S → Option (List ℕ)) (health : S → Health) (limits : Limits) (told : List (Option (List ℕ)))
    (objects : StoredObjects S) (stop : ObjectFault SegmentFault) → IsOfTarget stop → TellsChange written health limits told objects stop
no_change written health limits told objects stops.OutOfMemory is = tt
no_change written health limits told objects (stops.TwoContents key) is = absurd is
no_change written health limits told objects (stops.Scratch fault) is = absurd is
no_change written health limits told objects (stops.Part part fault) is = absurd is
no_change written health limits told objects (stops.Sink fault) is = tt

-- no part has changed, and no scratch is damaged
abbrev pub IsSameStop : ObjectFault SegmentFault → Type 0
IsSameStop stops.OutOfMemory = ⊤
IsSameStop (stops.TwoContents id) = ⊤
IsSameStop (stops.Scratch fault) = IfDamaged fault ⊥
IsSameStop (stops.Part part fault) = ByFault fault ⊤ ⊥
IsSameStop (stops.Sink fault) = ⊤

-- where the parts are told again, none has changed, and no scratch is damaged
pub same_stop : {S : Type 0} (written : S → Option (List ℕ)) (health : S → Health) (limits : Limits) (told : List (Option (List ℕ)))
    (reads : List PartRead) (objects : StoredObjects S) → AreToldAgain written health limits told reads objects
    → (stop : ObjectFault SegmentFault) → TellsChange written health limits told objects stop → IsSameStop stop
same_stop written health limits told reads objects again stops.OutOfMemory tells = tt
same_stop written health limits told reads objects again (stops.TwoContents key) tells = tt
same_stop written health limits told reads objects again (stops.Scratch runs.OutOfMemory) tells = tt
same_stop written health limits told reads objects again (stops.Scratch runs.Read) tells = tt
same_stop written health limits told reads objects again (stops.Scratch runs.Damaged) tells = tells reads again.holds
same_stop written health limits told reads objects again (stops.Part part stretches.OutOfMemory) tells = tt
same_stop written health limits told reads objects again (stops.Part part stretches.Read) tells = tt
same_stop written health limits told reads objects again (stops.Part part stretches.Changed) tells =
    tells reads again.holds (again.same part)
same_stop written health limits told reads objects again (stops.Sink fault) tells = tt

pub rows_same : (stored : List PartStored) → objects_of (all_read stored) ≡ map rows_given (given_of stored)
rows_same [] = refl
rows_same (first ∷ stored) = ap (λ (l : List (List ByteRow)). rows_given first.given ∷ l) (rows_same stored)

pub same_ids : (ids : IdSize) (parts : List Given) → AllByRecursion (λ part. part.header.ids ≡ ids) (map without_objects parts)
    → AllByRecursion (λ part. part.header.ids ≡ ids) parts
same_ids ids [] all = tt
same_ids ids (part ∷ parts) all = (all.0, same_ids ids parts all.1)

-- ---- what the laws of objects say

abbrev pub StandBehind : Type 0
StandBehind = (parts : List Given) (ids : IdSize) (rows : List ByteRow) → AllByRecursion (λ part. part.header.ids ≡ ids) parts
    → FitGiven parts → IsUnion (map rows_given parts) rows → (objects : List FactValue) × AreObjects ids rows objects

abbrev pub TellWhole : Type 0
TellWhole = (parts : List Given) (heap : HeapValue) (rows : List ByteRow) (objects : List FactValue)
    → Tells (map without_objects parts) (Ok heap) → FitGiven parts → IsUnion (map rows_given parts) rows
    → AreObjects heap.ids rows objects → Tells parts (Ok (with_objects heap objects))

abbrev pub ComeLast : Type 0
ComeLast = (parts : List Given) (heap : HeapValue) (key : ℕ) → Tells (map without_objects parts) (Ok heap) → FitGiven parts
    → IsLeastWithTwoContents (map rows_given parts) key → Tells parts (Err (refusals.Conflict (keys.Object key)))

-- ---- the parts

-- objects with these rows stand behind the heap, and the parts agree on all
pub record AgreeWith (parts : List (List ℕ)) (heap : HeapValue) (rows : List ByteRow) : Type 0 where
  pub objects : List FactValue
  pub are : AreObjects heap.ids rows objects
  pub agree : Agree parts heap.ids heap.millis (heap.facts ++ objects)

module _ {R : Type 0} (left : R → Option (List ℕ)) (limits : Limits) (old : List R) (stored : List PartStored)
    (are : AreStored limits (map left old) stored) (given : AreGiven limits (map left old) (given_of stored)) (heap : HeapValue)
    (tells : Tells (others_of stored) (Ok heap)) (parts : List (List ℕ)) (told : Tell left old parts) where
  pub by_parts : AreStored limits (map Some parts) stored
  by_parts = subst (λ (ls : List (Option (List ℕ))). AreStored limits ls stored) told are

  pub by_all : AreGiven limits (map left (take (length old) old)) (given_of stored)
  by_all = subst (λ (rs : List R). AreGiven limits (map left rs) (given_of stored)) (sym (take-length old)) given

  -- the parts agree, where their objects have a union
  pub agreed : StandBehind → TellWhole → (rows : List ByteRow) → IsUnion (objects_of (all_read stored)) rows → AgreeWith parts heap rows
  agreed behind whole rows union =
      let fit = fits limits parts stored by_parts in
      let same = subst (λ (l : List (List ByteRow)). IsUnion l rows) (rows_same stored) union in
      let objects = behind (given_of stored) heap.ids rows (same_ids heap.ids (given_of stored) tells.0) fit same in
      record {
        objects = objects.0;
        are = objects.1;
        agree = agree left limits old (given_of stored) by_all parts told (with_objects heap objects.0)
            (whole (given_of stored) heap rows objects.0 tells fit same objects.1);
      }

  -- why objects cannot be gone through for the first time
  pub is_of_loss : ComeLast → (stop : ObjectFault SegmentFault) → FindsLeast (objects_of (all_read stored)) stop → IsSameStop stop
      → IsOfLoss parts (pass_fault stop)
  is_of_loss last stops.OutOfMemory finds same = tt
  is_of_loss last (stops.TwoContents key) finds same =
      disagree left limits old (given_of stored) by_all parts told (keys.Object key)
      (last (given_of stored) heap key tells (fits limits parts stored by_parts)
      (subst (λ (l : List (List ByteRow)). IsLeastWithTwoContents l key) (rows_same stored) finds))
  is_of_loss last (stops.Scratch fault) finds same = same
  is_of_loss last (stops.Part part fault) finds same = same
  is_of_loss last (stops.Sink fault) finds same = absurd finds
