-- What is made of parts whose objects are read again, and the fault that a call answers which makes it.
use Rattle.std.specs.Prelude.{◌≡◌, ◌≢◌, ℕ, List, [], map, Option, Some, IsSome, ⊤}
use Rattle.hprof_stream.specs.declared.summary.PartSummary.{PartSummary}
use Rattle.hprof_rows.specs.declared.key.Key.TheVariants as keys
use Rattle.hprof_rows.specs.HeapValue.{HeapValue}
use Rattle.hprof_engine.specs.declared.loss.Loss.TheVariants as losses
use Rattle.hprof_engine.specs.declared.heap_fault.HeapFault.{HeapFault}
use Rattle.hprof_engine.specs.declared.tool_fault.ToolFault.{ToolFault}
use Rattle.hprof_engine.specs.declared.tool_fault.ToolFault.TheVariants as tool
use Rattle.hprof_engine.specs.Joining.{Disagree, Tell}
use Rattle.hprof_engine.specs.Makes.{IsDumpText, IsMadeOf, Making}
use Rattle.hprof_segments.specs.declared.segment_fault.SegmentFault.{SegmentFault}
use Rattle.hprof_segments.specs.declared.segment_fault.SegmentFault.TheVariants as segments
use Rattle.hprof_objects.specs.declared.object_fault.ObjectFault.{ObjectFault}
use Rattle.hprof_objects.specs.declared.object_fault.ObjectFault.TheVariants as objects
use Rattle.hprof_objects.specs.declared.stretch_fault.StretchFault.TheVariants as stretches
use Rattle.hprof_runs.specs.declared.run_fault.RunFault.TheVariants as runs
use Rattle.hprof_runs.specs.declared.scratch_fault.ScratchFault.TheVariants as scratches
use Rattle.hprof_stored.specs.declared.in_parts_fault.InPartsFault.{InPartsFault}
use Rattle.hprof_stored.specs.declared.in_parts_fault.InPartsFault.TheVariants as passes
use Rattle.hprof_stored.specs.declared.stored_fault.StoredFault.{StoredFault}
use Rattle.hprof_stored.specs.declared.stored_fault.StoredFault.TheVariants as stops
use Rattle.hprof_stored.specs.InParts.{IsOfSame}
use Rattle.hprof_stored.specs.Storing.{HaveObject}

-- what is made of parts, by what a product says of one heap; memory is taken for each object, also for one that is known
abbrev pub stored_making : (IsText : List PartSummary → HeapValue → List ℕ → Type 0) (Refuses : HeapFault → HeapValue → Type 0)
    → Making
stored_making IsText Refuses = record {
  IsMade = IsMadeOf IsText;
  Refuses = Refuses;
  TakesRoom = λ parts. ⊤;
  TakesMemory = ⊤;
  TakesKnown = HaveObject;
  ReadsAgain = ⊤;
}

-- the same of the canonical dump, which no heap is refused
abbrev pub stored_dump_making : Making
stored_dump_making = stored_making IsDumpText (λ refusal heap. ⊥)

-- where readers tell parts, of which there are some, these are told when they are opened again, and the scratch tells its bytes
--   left: what a reader has left to tell;  again: the bytes of the parts that are opened again;  scratch: those of the scratch
abbrev pub CanBeReadAgain : {R : Type 0} → (R → Option (List ℕ)) → List R → (again : List (Option (List ℕ))) → (scratch : Option (List ℕ))
    → Type 0
CanBeReadAgain left readers again scratch =
    readers ≢ [] → (told : List (List ℕ)) → Tell left readers told → (again ≡ map Some told) × IsSome scratch

-- the fault that a call answers, by why parts have no heap, or why reading them stopped
abbrev pub fault_of_reading : StoredFault → ToolFault
fault_of_reading (stops.Part index fault) = tool.Part index fault
fault_of_reading stops.NoParts = tool.NoParts
fault_of_reading stops.IdSizes = tool.IdSizes
fault_of_reading (stops.Conflict key) = tool.Conflict key
fault_of_reading (stops.Scratch scratches.OutOfMemory) = tool.OutOfMemory
fault_of_reading (stops.Scratch scratches.Full) = tool.Lost losses.Scratch
fault_of_reading (stops.Scratch (scratches.Write fault)) = tool.Lost losses.Scratch

-- and by why their objects cannot be gone through; a number of objects beyond what can be counted is want of memory
abbrev pub fault_of_pass : InPartsFault → ToolFault
fault_of_pass passes.OutOfMemory = tool.OutOfMemory
fault_of_pass (passes.TwoContents id) = tool.Conflict (keys.Object id)
fault_of_pass (passes.Scratch runs.OutOfMemory) = tool.OutOfMemory
fault_of_pass (passes.Scratch runs.Read) = tool.Lost losses.Scratch
fault_of_pass (passes.Scratch runs.Damaged) = tool.Lost losses.Scratch
fault_of_pass (passes.Part part stretches.OutOfMemory) = tool.OutOfMemory
fault_of_pass (passes.Part part stretches.Read) = tool.Lost (losses.Read part)
fault_of_pass (passes.Part part stretches.Changed) = tool.Lost (losses.Changed part)
fault_of_pass passes.NoObject = tool.Lost losses.Objects
fault_of_pass passes.TooMany = tool.OutOfMemory

-- and by why their writing stopped, where they were gone through before; if objects have two contents, or one is no sub-record, that were
-- none before, they have changed
abbrev pub fault_of_stop : ObjectFault SegmentFault → ToolFault
fault_of_stop objects.OutOfMemory = tool.OutOfMemory
fault_of_stop (objects.TwoContents id) = tool.Lost losses.Objects
fault_of_stop (objects.Scratch fault) = fault_of_pass (passes.Scratch fault)
fault_of_stop (objects.Part part fault) = fault_of_pass (passes.Part part fault)
fault_of_stop (objects.Sink segments.NoSubRecord) = tool.Lost losses.Objects
fault_of_stop (objects.Sink (segments.Write fault)) = tool.Write fault

-- why objects cannot be gone through for the first time, where no sink refuses one
abbrev pub pass_fault : ObjectFault SegmentFault → InPartsFault
pass_fault objects.OutOfMemory = passes.OutOfMemory
pass_fault (objects.TwoContents id) = passes.TwoContents id
pass_fault (objects.Scratch fault) = passes.Scratch fault
pass_fault (objects.Part part fault) = passes.Part part fault
pass_fault (objects.Sink fault) = passes.NoObject

-- what that says of the parts, if they are told: the identifier is the least key with two contents; no part has changed
abbrev pub IsOfLoss : List (List ℕ) → InPartsFault → Type 0
IsOfLoss parts (passes.TwoContents id) = Disagree parts (keys.Object id)
IsOfLoss parts fault = IsOfSame fault
