-- What a call answers that reads parts, and goes through their stored objects again to write something.
use Rattle.std.proofs.Common.{◌≡◌, ℕ, List, [], length, map, Option, Some, None, Err, sym, subst}
use Rattle.std.specs.Io.KnownBytes.{Appends}
use Rattle.hprof_devices.specs.declared.health.Health.{Health}
use Rattle.hprof_devices.specs.declared.health.Health.TheVariants.{Well}
use Rattle.hprof_stream.specs.declared.limits.Limits.{Limits}
use Rattle.hprof_stream.specs.declared.summary.PartSummary.{PartSummary}
use Rattle.hprof_rows.specs.HeapValue.{HeapValue}
use Rattle.hprof_heap.specs.Heap.{heap_of}
use Rattle.hprof_merge.specs.Rows.{ByteRow}
use Rattle.hprof_merge.specs.Union.{IsUnion}
use Rattle.hprof_segments.specs.declared.segment_fault.SegmentFault.{SegmentFault}
use Rattle.hprof_objects.specs.declared.object_fault.ObjectFault.{ObjectFault}
use Rattle.hprof_objects.specs.declared.stored_objects.StoredObjects.{StoredObjects}
use Rattle.hprof_objects.specs.Log.{HoldsParts}
use Rattle.hprof_objects.specs.MergedObjects.{TellsChange}
use Rattle.hprof_objects.specs.PartsRead.{PartRead}
use Rattle.hprof_objects.specs.StoredObjects.{AreToldAgain, HoldsObjects, objects_of}
use Rattle.hprof_engine.specs.declared.product.ProductFault.TheVariants as writes
use Rattle.hprof_engine.specs.declared.heap_fault.HeapFault.{HeapFault}
use Rattle.hprof_engine.specs.declared.tool_fault.ToolFault.{ToolFault}
use Rattle.hprof_engine.specs.declared.tool_fault.ToolFault.TheVariants as tool
use Rattle.hprof_engine.specs.Joining.{Agree, AreReadOut, Tell}
use Rattle.hprof_engine.specs.Makes.{IsMadeOf}
use Rattle.hprof_engine.proofs.Making.{stopped}
use Rattle.hprof_stored.specs.declared.stored_heap.StoredHeap.{StoredHeap}
use Rattle.hprof_stored.specs.Dumping.{FindsLeast, IsOfDevices, LeavesTarget, WritesSome}
use Rattle.hprof_stored.specs.Parts.{all_read}
use Rattle.hprof_stored.specs.Reading.{HoldsHeap, ReadsFirst, ReadsStored}
use Rattle.hprof_stored.specs.Storing.{HaveObject}
use Rattle.hprof_stored.specs.StoredMaking.{CanBeReadAgain, fault_of_pass, fault_of_stop, pass_fault}
use Rattle.hprof_stored.proofs.JoinMakes.{stop_makes}
use Rattle.hprof_stored.proofs.Joined.{AgreeWith, ComeLast, StandBehind, TellWhole}
use Rattle.hprof_stored.proofs.StoredMakes.{MakesStored, done, heap_refused, pass_makes}
use Rattle.hprof_stored.proofs.StoredReads.{all_read_so}
use Rattle.hprof_stored.proofs.ToldAgain.{agree_told, as_read, loss_told, same_told}

-- left: what a reader has left to tell;  told: the bytes of the parts that are opened again;  scratch: those of the scratch at first
module _ {R W S K : Type 0} {Keeps : K → List PartSummary → Type 0} {kept : K} (left : R → Option (List ℕ)) (health : R → Health)
    (pulls : R → ℕ) (limits : Limits) (old new : List R) (written : W → Option (List ℕ)) (well : W → Health)
    (IsText : List PartSummary → HeapValue → List ℕ → Type 0) (Refuses : HeapFault → HeapValue → Type 0) (before after : W)
    (stores : S → Option (List ℕ)) (scratch_health : S → Health) (told : List (Option (List ℕ))) (scratch : Option (List ℕ))
    (stored : StoredHeap S) (objects : StoredObjects S) (some : old ≡ [] → ⊥) (can : CanBeReadAgain left old told scratch)
    (holds : HoldsHeap stores scratch_health limits (map left old) scratch stored)
    (finished : (limits : Limits) (reads : List PartRead) → HoldsParts stores scratch_health limits reads stored.objects
    → HoldsObjects stores scratch_health limits reads objects)
    (reads : ReadsStored left health pulls limits old new None) (first : ReadsFirst left health pulls Keeps limits old new None kept) where
  abbrev pub MakesSo : Option ToolFault → Type 0
  MakesSo ended = MakesStored left health pulls limits old new written well IsText Refuses before after ended

  -- these parts were read, and tell the same again
  abbrev pub AreSame : List PartRead → Type 0
  AreSame again = AreToldAgain stores scratch_health limits told again objects

  out : AreReadOut left health pulls limits old new (length old)
  out = subst (AreReadOut left health pulls limits old new) first.so_many first.read_out

  -- the objects cannot be gone through for the first time, and nothing was written
  pub loss_makes : (stop : ObjectFault SegmentFault) (fault : ToolFault) → fault ≡ fault_of_pass (pass_fault stop) → well before ≡ Well
      → after ≡ before → ComeLast → ((again : List PartRead) → AreSame again → FindsLeast (objects_of again) stop)
      → TellsChange stores scratch_health limits told objects stop → MakesSo (Some fault)
  loss_makes stop fault is was_well same last least change =
      subst (λ (f : ToolFault). MakesSo (Some f)) (sym is)
      (pass_makes left health pulls limits old new written well IsText Refuses before after some reads out was_well same
      (pass_fault stop)
      (λ parts tell.
      loss_told left stores scratch_health limits old told scratch stored objects holds finished can some parts tell last stop least
      change))

  -- the objects were gone through, and more is known of their union
  module _ (Known : List ByteRow → Type 0)
      (united : (again : List PartRead) → AreSame again → (rows : List ByteRow) × IsUnion (objects_of again) rows × Known rows)
      (behind : StandBehind) (whole : TellWhole) where
    record HaveRows (parts : List (List ℕ)) : Type 0 where
      pub same : AreSame (all_read holds.parts)
      pub rows : List ByteRow
      pub union : IsUnion (objects_of (all_read holds.parts)) rows
      pub known : Known rows
      pub agree : AgreeWith parts (heap_of stored.heap) rows

    have_rows : (parts : List (List ℕ)) → Tell left old parts → HaveRows parts
    have_rows parts tell =
        let same = as_read left stores scratch_health limits old told scratch stored objects holds finished can some parts tell in
        let it = united (all_read holds.parts) same in
        record {
          same = same;
          rows = it.0;
          union = it.1;
          known = it.2;
          agree = agree_told left stores scratch_health limits old told scratch stored objects holds finished can some parts tell behind
              whole it.0 it.1;
        }

    -- the heap is refused, and nothing was written
    pub refused_makes : (refusal : HeapFault) → after ≡ before
        → ((parts : List (List ℕ)) (rows : List ByteRow) → AgreeWith parts (heap_of stored.heap) rows → Known rows
        → (all : HeapValue) × Refuses refusal all × Agree parts all.ids all.millis all.facts) → MakesSo (Some (tool.Refused refusal))
    refused_makes refusal same refuses =
        heap_refused left health pulls limits old new written well IsText Refuses before after refusal
        (stopped left health pulls limits old new HaveObject (writes.Refused refusal)
        (all_read_so left health pulls limits old new some reads out)) same
        (λ parts tell. let it = have_rows parts tell in refuses parts it.rows it.agree it.known)

    module _ (text : List ByteRow → List ℕ) (is : (parts : List (List ℕ)) (rows : List ByteRow) → AgreeWith parts (heap_of stored.heap) rows
        → Known rows → IsMadeOf IsText parts (text rows)) where
      -- all was written
      pub done_makes : well after ≡ Well
          → ((again : List PartRead) (rows : List ByteRow) → AreSame again → IsUnion (objects_of again) rows → Known rows
          → Appends (written before) (written after) (text rows)) → MakesSo None
      done_makes is_well wrote =
          done left health pulls limits old new written well IsText Refuses before after
          (all_read_so left health pulls limits old new some reads out) is_well
          (λ parts tell.
          let it = have_rows parts tell in (
            text it.rows,
            is parts it.rows it.agree it.known,
            wrote (all_read holds.parts) it.rows it.same it.union it.known,
          ))

      -- writing stopped
      pub stopped_makes : (stop : ObjectFault SegmentFault) (fault : ToolFault) → fault ≡ fault_of_stop stop
          → LeavesTarget {A = Unit {0}} (Err stop) (well after)
          → ((again : List PartRead) (rows : List ByteRow) → AreSame again → IsUnion (objects_of again) rows → Known rows
          → WritesSome (written before) (written after) (text rows))
          → ((parts : List (List ℕ)) (again : List PartRead) (rows : List ByteRow) → AgreeWith parts (heap_of stored.heap) rows
          → AreSame again → IsUnion (objects_of again) rows → IsOfDevices stop)
          → TellsChange stores scratch_health limits told objects stop → MakesSo (Some fault)
      stopped_makes stop fault is_fault leaves wrote devices change =
          subst (λ (f : ToolFault). MakesSo (Some f)) (sym is_fault)
          (stop_makes left health pulls limits old new written well IsText Refuses before after some reads out
          (λ parts tell.
          let it = have_rows parts tell in
          let some_bytes = wrote (all_read holds.parts) it.rows it.same it.union it.known in (
            text it.rows,
            some_bytes.0,
            is parts it.rows it.agree it.known,
            some_bytes.2,
          )) stop leaves
          (λ parts tell.
          let it = have_rows parts tell in (
            devices parts (all_read holds.parts) it.rows it.agree it.same it.union,
            same_told left stores scratch_health limits old told scratch stored objects holds finished can some parts tell stop change,
          )))
