-- What a call answers that saves what it can of parts, and goes through their stored objects again to write them.
use Rattle.std.proofs.Common.{◌≡◌, ◌+◌, ℕ, List, [], length, map, take, Option, Result, Ok, Err, inl, inr, refl, sym, ap, subst, ◌∙◌}
use Rattle.std.specs.Io.KnownBytes.{Appends}
use Rattle.hprof_items.specs.FactValue.{FactValue}
use Rattle.hprof_devices.specs.declared.health.Health.{Health}
use Rattle.hprof_devices.specs.declared.health.Health.TheVariants.{Well}
use Rattle.hprof_stream.specs.declared.limits.Limits.{Limits}
use Rattle.hprof_rows.specs.declared.key.Key.TheVariants as keys
use Rattle.hprof_rows.specs.HeapValue.{HeapValue}
use Rattle.hprof_heap.specs.declared.standing.Refusal.TheVariants as refusals
use Rattle.hprof_heap.specs.Heap.{heap_of}
use Rattle.hprof_dump.specs.Dump.{canonical_dump}
use Rattle.hprof_merge.specs.Rows.{ByteRow}
use Rattle.hprof_merge.specs.Union.{IsUnion}
use Rattle.hprof_runs.specs.declared.run_fault.RunFault.TheVariants as runs
use Rattle.hprof_segments.specs.declared.segment_fault.SegmentFault.{SegmentFault}
use Rattle.hprof_segments.specs.declared.segment_fault.SegmentFault.TheVariants as segments
use Rattle.hprof_objects.specs.declared.object_fault.ObjectFault.{ObjectFault}
use Rattle.hprof_objects.specs.declared.object_fault.ObjectFault.TheVariants as objects
use Rattle.hprof_objects.specs.declared.stored_objects.StoredObjects.{StoredObjects}
use Rattle.hprof_objects.specs.declared.stretch_fault.StretchFault.TheVariants as stretches
use Rattle.hprof_objects.specs.Log.{HoldsParts}
use Rattle.hprof_objects.specs.MergedObjects.{TellsChange}
use Rattle.hprof_objects.specs.PartsRead.{PartRead}
use Rattle.hprof_objects.specs.StoredObjects.{AreToldAgain, HoldsObjects, objects_of}
use Rattle.hprof_passes.specs.Passing.{objects_among}
use Rattle.hprof_engine.specs.declared.salvaged.Salvaged.{Salvaged}
use Rattle.hprof_engine.specs.declared.tool_fault.ToolFault.{ToolFault}
use Rattle.hprof_engine.specs.declared.tool_fault.ToolFault.TheVariants as tool
use Rattle.hprof_engine.specs.Joining.{Tell}
use Rattle.hprof_engine.specs.Salvaging.{ReadsThrough}
use Rattle.hprof_stored.specs.declared.in_parts.InParts.{InParts}
use Rattle.hprof_stored.specs.declared.in_parts_fault.InPartsFault.{InPartsFault}
use Rattle.hprof_stored.specs.declared.in_parts_fault.InPartsFault.TheVariants as passes
use Rattle.hprof_stored.specs.declared.saving.SavedHeap.{SavedHeap}
use Rattle.hprof_stored.specs.Dumping.{AreSubRecords, IsOfDevices, LeavesTarget, WritesSome, dump_with}
use Rattle.hprof_stored.specs.InParts.{AreAsRead, HaveUnion, MakeUp, TellsPass, limits_under, objects_under, parts_under}
use Rattle.hprof_stored.specs.SalvagingStored.{AreAllRead, IfTold, SalvagesStored, WritesSavedFront}
use Rattle.hprof_stored.specs.SavedParts.{read_saved}
use Rattle.hprof_stored.specs.SavingThrough.{HoldsSaved}
use Rattle.hprof_stored.specs.StoredMaking.{CanBeReadAgain, fault_of_pass, fault_of_stop}
use Rattle.hprof_stored.proofs.Dumped.{dump_of_all, rows_are_subs}
use Rattle.hprof_stored.proofs.Joined.{ComeLast, IsSameStop, StandBehind, TellWhole, same_stop}
use Rattle.hprof_stored.proofs.Saved.{all, as_read, contents_differ, counted, rows_spelled, stand, tells_all, through, through_given}

-- left: what a reader has left to tell;  bytes: those of the parts that are opened again;  scratch: those of the scratch at first
module _ {R W S P : Type 0} (left : R → Option (List ℕ)) (health : R → Health) (pulls : R → ℕ) (limits : Limits) (old new : List R)
    (written : W → Option (List ℕ)) (well : W → Health) (before after : W) (stores : S → Option (List ℕ)) (scratch_health : S → Health)
    (bytes : P → List (Option (List ℕ))) (opened : P) (scratch : Option (List ℕ)) (saved : SavedHeap S) (stored : StoredObjects S)
    (holds : HoldsSaved left health pulls limits old new stores scratch_health scratch saved)
    (finished : (limits : Limits) (reads : List PartRead) → HoldsParts stores scratch_health limits reads saved.stored.objects
    → HoldsObjects stores scratch_health limits reads stored)
    (can : CanBeReadAgain left old (bytes opened) scratch) (some : old ≡ [] → ⊥) (it : InParts S P) (is_stored : objects_under it ≡ stored)
    (is_opened : parts_under it ≡ opened) (is_limits : limits_under it ≡ limits) where
  abbrev heap : HeapValue
  heap = heap_of saved.stored.heap

  abbrev reads : List PartRead
  reads = map read_saved holds.read.parts

  abbrev pub Answers : Result Salvaged ToolFault → Type 0
  Answers result = SalvagesStored left health pulls limits old new written well before after result

  -- these parts were read, and tell the same again
  abbrev AreSame : List PartRead → Type 0
  AreSame again = AreToldAgain stores scratch_health limits (bytes opened) again stored

  all_read : AreAllRead left health pulls limits old new
  all_read = record { reads = holds.read.reads; each = holds.read.each; all = holds.read.all }

  same : (told : List (List ℕ)) → Tell left old told → AreSame reads
  same told tell =
      as_read left health pulls limits old new stores scratch_health (bytes opened) scratch saved stored holds finished can some told tell

  in_parts : (told : List (List ℕ)) → Tell left old told → AreAsRead stores scratch_health bytes it reads
  in_parts told tell =
      subst (λ (l : Limits). AreToldAgain stores scratch_health l (bytes (parts_under it)) reads (objects_under it)) (sym is_limits)
      (subst (λ (p : P). AreToldAgain stores scratch_health limits (bytes p) reads (objects_under it)) (sym is_opened)
      (subst (λ (o : StoredObjects S). AreToldAgain stores scratch_health limits (bytes opened) reads o) (sym is_stored) (same told tell)))

  -- ---- the objects were not counted, and nothing was written

  module _ (unwritten : after ≡ before) (was_well : well before ≡ Well) where
    pub wants_memory : Answers (Err tool.OutOfMemory)
    unfolding all_read
    wants_memory = inr (all_read, ap well unwritten ∙ was_well, inl unwritten)

    pub not_counted : (unreadable : S → Type 0) → ComeLast → (fault : InPartsFault)
        → TellsPass stores scratch_health bytes unreadable it heap.ids heap.facts fault → Answers (Err (fault_of_pass fault))
    not_counted unreadable last passes.OutOfMemory tells = wants_memory
    not_counted unreadable last (passes.TwoContents id) tells = (
      unwritten,
      λ told tell. record {
        reads = holds.read.reads;
        through = through left health pulls limits old new saved.headed saved.faults.items holds.read
            (Err (refusals.Conflict (keys.Object id)))
            (contents_differ left health pulls limits old new stores scratch_health (bytes opened) scratch saved stored holds finished
            last id (tells reads (in_parts told tell)));
        unwritten = unwritten;
      },
    )
    not_counted unreadable last (passes.Scratch runs.OutOfMemory) tells = wants_memory
    not_counted unreadable last (passes.Scratch runs.Read) tells = (inl unwritten, λ told tell change. change)
    not_counted unreadable last (passes.Scratch runs.Damaged) tells = (inl unwritten, λ told tell change. change)
    not_counted unreadable last (passes.Part part stretches.OutOfMemory) tells = wants_memory
    not_counted unreadable last (passes.Part part stretches.Read) tells = (inl unwritten, λ told tell change. change)
    not_counted unreadable last (passes.Part part stretches.Changed) tells =
        (inl unwritten, λ told tell change. let again = in_parts told tell in tells reads again.holds (again.same part))
    not_counted unreadable last passes.NoObject tells = (
      inl unwritten,
      λ told tell change. tells reads (in_parts told tell)
          (rows_spelled left health pulls limits old new stores scratch_health (bytes opened) scratch saved stored holds finished),
    )
    not_counted unreadable last passes.TooMany tells = wants_memory

  -- ---- they were counted, and have a union

  module _ (union : HaveUnion stores scratch_health bytes it) (behind : StandBehind) (whole : TellWhole) where
    -- what is saved, and the rows of its objects
    record Saves : Type 0 where
      again : AreSame reads
      in_it : AreAsRead stores scratch_health bytes it reads
      rows : List ByteRow
      are : IsUnion (objects_of reads) rows
      heap_too : HeapValue
      through_too : ReadsThrough left health pulls limits old new holds.read.reads (Ok heap_too)
      dump : dump_with heap rows ≡ canonical_dump heap_too.ids heap_too.millis heap_too.facts
      subs : AreSubRecords rows
      count : (number : ℕ) → ((facts : List FactValue) → MakeUp stores scratch_health bytes it heap.ids heap.facts facts
          → number ≡ length (objects_among facts)) → length heap.facts + number ≡ length heap_too.facts
      headed : saved.headed ≡ length through_too.saves.given

    saves : (told : List (List ℕ)) → Tell left old told → Saves
    saves told tell =
        let u = union reads (in_parts told tell) in
        let objects = stand left health pulls limits old new stores scratch_health (bytes opened) scratch saved stored holds finished behind
        whole u.0 u.1 in
        record {
          again = same told tell;
          in_it = in_parts told tell;
          rows = u.0;
          are = u.1;
          heap_too = all left health pulls limits old new stores scratch_health (bytes opened) scratch saved stored holds finished behind
              whole u.0 u.1;
          through_too = through left health pulls limits old new saved.headed saved.faults.items holds.read
              (Ok (all left health pulls limits old new stores scratch_health (bytes opened) scratch saved stored holds finished behind
              whole u.0 u.1))
              (tells_all left health pulls limits old new stores scratch_health (bytes opened) scratch saved stored holds finished behind
              whole u.0 u.1);
          dump = dump_of_all heap u.0 objects.0 objects.1;
          subs = rows_are_subs heap.ids u.0 objects.0 objects.1;
          count = λ number counts. counted left health pulls limits old new stores scratch_health (bytes opened) scratch saved stored holds
              finished behind whole u.0 u.1 bytes it number (in_parts told tell) counts;
          headed = through_given left health pulls limits old new saved.headed saved.faults.items holds.read
              (Ok (all left health pulls limits old new stores scratch_health (bytes opened) scratch saved stored holds finished behind
              whole u.0 u.1))
              (tells_all left health pulls limits old new stores scratch_health (bytes opened) scratch saved stored holds finished behind
              whole u.0 u.1);
        }

    -- all was written
    pub saved_all : (facts number : ℕ) → facts ≡ length heap.facts + number
        → ((all : List FactValue) → MakeUp stores scratch_health bytes it heap.ids heap.facts all → number ≡ length (objects_among all))
        → well after ≡ Well
        → ((again : List PartRead) (rows : List ByteRow) → AreSame again → IsUnion (objects_of again) rows
        → Appends (written before) (written after) (dump_with heap rows))
        → Answers (Ok (record { joined = record { parts = saved.headed; facts = facts }; faults = saved.faults }))
    unfolding all_read
    saved_all facts number is counts is_well wrote = record {
      read = all_read;
      listed = holds.read.has_listed;
      is_well = is_well;
      saves = λ told tell.
          let its = saves told tell in
          record {
            reads = holds.read.reads;
            heap = its.heap_too;
            through = its.through_too;
            listed = holds.read.has_listed;
            parts_count = its.headed;
            facts_count = is ∙ its.count number counts;
            wrote = subst (Appends (written before) (written after)) its.dump (wrote reads its.rows its.again its.are);
            is_well = is_well;
          };
    }

    -- writing stopped
    module _ (stop : ObjectFault SegmentFault)
        (wrote : (again : List PartRead) (rows : List ByteRow) → AreSame again → IsUnion (objects_of again) rows
        → WritesSome (written before) (written after) (dump_with heap rows)) where
      front : IfTold left health pulls limits old new
          (WritesSavedFront left health pulls limits old new written well before after)
      front told tell =
          let its = saves told tell in
          let some_bytes = wrote reads its.rows its.again its.are in
          record {
            reads = holds.read.reads;
            heap = its.heap_too;
            through = its.through_too;
            count = some_bytes.0;
            wrote = subst (λ (b : List ℕ). Appends (written before) (written after) (take some_bytes.0 b)) its.dump some_bytes.2;
          }

      stopped : (devices : (told : List (List ℕ)) → Tell left old told → IsOfDevices stop × IsSameStop stop)
          → (is : ObjectFault SegmentFault) → is ≡ stop → LeavesTarget {A = Unit {0}} (Err is) (well after)
          → Answers (Err (fault_of_stop is))
      unfolding all_read
      stopped devices objects.OutOfMemory e leaves = inr (all_read, leaves, inr front)
      stopped devices (objects.TwoContents id) e leaves =
          (inr front, λ told tell change. subst IsOfDevices (sym e) (devices told tell).0)
      stopped devices (objects.Scratch runs.OutOfMemory) e leaves = inr (all_read, leaves, inr front)
      stopped devices (objects.Scratch runs.Read) e leaves = (inr front, λ told tell change. change)
      stopped devices (objects.Scratch runs.Damaged) e leaves = (inr front, λ told tell change. change)
      stopped devices (objects.Part part stretches.OutOfMemory) e leaves = inr (all_read, leaves, inr front)
      stopped devices (objects.Part part stretches.Read) e leaves = (inr front, λ told tell change. change)
      stopped devices (objects.Part part stretches.Changed) e leaves =
          (inr front, λ told tell change. subst IsSameStop (sym e) (devices told tell).1)
      stopped devices (objects.Sink segments.NoSubRecord) e leaves =
          (inr front, λ told tell change. subst IsOfDevices (sym e) (devices told tell).0)
      stopped devices (objects.Sink (segments.Write fault)) e leaves = (
        leaves,
        λ told tell.
            let its = front told tell in
            record {
              reads = its.reads;
              heap = its.heap;
              through = its.through;
              count = its.count;
              wrote = its.wrote;
              ill = leaves;
            },
      )

      pub stopped_so : LeavesTarget {A = Unit {0}} (Err stop) (well after)
          → ((again : List PartRead) (rows : List ByteRow) → AreSame again → IsUnion (objects_of again) rows → AreSubRecords rows
          → IsOfDevices stop)
          → TellsChange stores scratch_health limits (bytes opened) stored stop → Answers (Err (fault_of_stop stop))
      stopped_so leaves devices change = stopped (λ told tell.
          let its = saves told tell in (
            devices reads its.rows its.again its.are its.subs,
            same_stop stores scratch_health limits (bytes opened) reads stored its.again stop change,
          )) stop refl leaves
