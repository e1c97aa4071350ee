-- What stored objects say of parts that tell their bytes, and tell them again.
use Rattle.std.proofs.Common.{◌≡◌, ℕ, List, [], map, Option}
use Rattle.hprof_devices.specs.declared.health.Health.{Health}
use Rattle.hprof_stream.specs.declared.limits.Limits.{Limits}
use Rattle.hprof_rows.specs.HeapValue.{HeapValue}
use Rattle.hprof_heap.specs.Heap.{heap_of}
use Rattle.hprof_merge.specs.Rows.{ByteRow}
use Rattle.hprof_merge.specs.Union.{IsUnion}
use Rattle.hprof_segments.specs.declared.segment_fault.SegmentFault.{SegmentFault}
use Rattle.hprof_objects.specs.declared.object_fault.ObjectFault.{ObjectFault}
use Rattle.hprof_objects.specs.declared.stored_objects.StoredObjects.{StoredObjects}
use Rattle.hprof_objects.specs.Log.{HoldsParts}
use Rattle.hprof_objects.specs.MergedObjects.{TellsChange}
use Rattle.hprof_objects.specs.PartsRead.{PartRead}
use Rattle.hprof_objects.specs.StoredObjects.{AreToldAgain, HoldsObjects, objects_of}
use Rattle.hprof_engine.specs.Joining.{Tell}
use Rattle.hprof_stored.specs.declared.stored_heap.StoredHeap.{StoredHeap}
use Rattle.hprof_stored.specs.Dumping.{FindsLeast}
use Rattle.hprof_stored.specs.Parts.{all_read}
use Rattle.hprof_stored.specs.Reading.{HoldsHeap}
use Rattle.hprof_stored.specs.StoredMaking.{CanBeReadAgain, IsOfLoss, pass_fault}
use Rattle.hprof_stored.proofs.Joined.{AgreeWith, ComeLast, IsSameStop, StandBehind, TellWhole, agreed, by_parts, is_of_loss, same_stop}
use Rattle.hprof_stored.proofs.Joined.{told_again}

-- left: what a reader has left to tell;  again: the bytes of the parts that are opened again;  scratch: those of the scratch at first
module _ {R S : Type 0} (left : R → Option (List ℕ)) (written : S → Option (List ℕ)) (health : S → Health) (limits : Limits)
    (readers : List R) (again : List (Option (List ℕ))) (scratch : Option (List ℕ)) (stored : StoredHeap S) (objects : StoredObjects S)
    (holds : HoldsHeap written health limits (map left readers) scratch stored)
    (finished : (limits : Limits) (reads : List PartRead) → HoldsParts written health limits reads stored.objects
    → HoldsObjects written health limits reads objects)
    (can : CanBeReadAgain left readers again scratch) (some : readers ≡ [] → ⊥) (parts : List (List ℕ))
    (told : Tell left readers parts) where
  abbrev heap : HeapValue
  heap = heap_of stored.heap

  pub as_read : AreToldAgain written health limits again (all_read holds.parts) objects
  as_read =
      let bytes = can some parts told in
      told_again limits written health parts holds.parts again objects bytes.0
      (by_parts left limits readers holds.parts holds.stored holds.given heap holds.tells parts told)
      (finished limits (all_read holds.parts) (holds.objects bytes.1))

  -- the parts agree, where the objects have a union
  pub agree_told : StandBehind → TellWhole → (rows : List ByteRow) → IsUnion (objects_of (all_read holds.parts)) rows
      → AgreeWith parts (heap_of stored.heap) rows
  agree_told = agreed left limits readers holds.parts holds.stored holds.given heap holds.tells parts told

  -- why the objects cannot be gone through
  pub same_told : (stop : ObjectFault SegmentFault) → TellsChange written health limits again objects stop → IsSameStop stop
  same_told = same_stop written health limits again (all_read holds.parts) objects as_read

  -- the same of the first time
  pub loss_told : ComeLast → (stop : ObjectFault SegmentFault)
      → ((reads : List PartRead) → AreToldAgain written health limits again reads objects → FindsLeast (objects_of reads) stop)
      → TellsChange written health limits again objects stop → IsOfLoss parts (pass_fault stop)
  loss_told last stop least change =
      is_of_loss left limits readers holds.parts holds.stored holds.given heap holds.tells parts told last stop
      (least (all_read holds.parts) as_read) (same_told stop change)
