-- What a call answers that writes a dump of parts, where the writing of their objects stopped.
use Rattle.std.proofs.Common.{◌≡◌, inr, ℕ, List, [], length, Option, Some, None, Err}
use Rattle.hprof_devices.specs.declared.health.Health.{Health}
use Rattle.hprof_devices.specs.declared.health.Health.TheVariants as healths
use Rattle.hprof_stream.specs.declared.limits.Limits.{Limits}
use Rattle.hprof_stream.specs.declared.summary.PartSummary.{PartSummary}
use Rattle.hprof_rows.specs.HeapValue.{HeapValue}
use Rattle.hprof_runs.specs.declared.run_fault.RunFault.TheVariants as runs
use Rattle.hprof_objects.specs.declared.object_fault.ObjectFault.{ObjectFault}
use Rattle.hprof_objects.specs.declared.object_fault.ObjectFault.TheVariants as objects
use Rattle.hprof_objects.specs.declared.stretch_fault.StretchFault.TheVariants as stretches
use Rattle.hprof_segments.specs.declared.segment_fault.SegmentFault.{SegmentFault}
use Rattle.hprof_segments.specs.declared.segment_fault.SegmentFault.TheVariants as segments
use Rattle.hprof_engine.specs.declared.loss.Loss.{Loss}
use Rattle.hprof_engine.specs.declared.loss.Loss.TheVariants as losses
use Rattle.hprof_engine.specs.declared.heap_fault.HeapFault.{HeapFault}
use Rattle.hprof_engine.specs.declared.product.ProductFault.TheVariants as writes
use Rattle.hprof_engine.specs.declared.tool_fault.ToolFault.{ToolFault}
use Rattle.hprof_engine.specs.declared.tool_fault.ToolFault.TheVariants as tool
use Rattle.hprof_engine.specs.Joining.{AreReadOut, Tell}
use Rattle.hprof_engine.specs.Makes.{IsChange}
use Rattle.hprof_engine.proofs.Making.{stopped}
use Rattle.hprof_stored.specs.Dumping.{IsOfDevices, LeavesTarget}
use Rattle.hprof_stored.specs.Reading.{ReadsStored}
use Rattle.hprof_stored.specs.Storing.{HaveObject}
use Rattle.hprof_stored.specs.StoredMaking.{fault_of_stop}
use Rattle.hprof_stored.proofs.Joined.{IsSameStop}
use Rattle.hprof_stored.proofs.StoredMakes.{FrontIfTold, MakesStored, failed, lost, wants_behind}
use Rattle.hprof_stored.proofs.StoredReads.{all_read_so}

module _ {R W : Type 0} (left : R → Option (List ℕ)) (health : R → Health) (pulls : R → ℕ) (limits : Limits) (old new : List R)
    (written : W → Option (List ℕ)) (well : W → Health) (IsText : List PartSummary → HeapValue → List ℕ → Type 0)
    (Refuses : HeapFault → HeapValue → Type 0) (before after : W) (some : old ≡ [] → ⊥) where
  abbrev pub MakesDump : Option ToolFault → Type 0
  MakesDump ended = MakesStored left health pulls limits old new written well IsText Refuses before after ended

  abbrev pub Front : Type 0
  Front = FrontIfTold left health pulls limits old new written well IsText Refuses before after

  -- writing stopped
  module _ (stored : ReadsStored left health pulls limits old new None) (out : AreReadOut left health pulls limits old new (length old))
      (front : Front) where
    lost_so : (loss : Loss) → ((parts : List (List ℕ)) → Tell left old parts → IsChange loss → ⊥) → MakesDump (Some (tool.Lost loss))
    lost_so loss unchanged =
        lost left health pulls limits old new written well IsText Refuses before after some stored out loss (inr front) unchanged

    wants_so : well after ≡ healths.Well → MakesDump (Some tool.OutOfMemory)
    wants_so is_well =
        wants_behind left health pulls limits old new written well IsText Refuses before after some stored out is_well (inr front)

    pub stop_makes : (stop : ObjectFault SegmentFault) → LeavesTarget {A = Unit {0}} (Err stop) (well after)
        → ((parts : List (List ℕ)) → Tell left old parts → IsOfDevices stop × IsSameStop stop) → MakesDump (Some (fault_of_stop stop))
    stop_makes objects.OutOfMemory leaves tells = wants_so leaves
    stop_makes (objects.TwoContents id) leaves tells = lost_so losses.Objects (λ parts told change. (tells parts told).0)
    stop_makes (objects.Scratch runs.OutOfMemory) leaves tells = wants_so leaves
    stop_makes (objects.Scratch runs.Read) leaves tells = lost_so losses.Scratch (λ parts told change. change)
    stop_makes (objects.Scratch runs.Damaged) leaves tells = lost_so losses.Scratch (λ parts told change. change)
    stop_makes (objects.Part part stretches.OutOfMemory) leaves tells = wants_so leaves
    stop_makes (objects.Part part stretches.Read) leaves tells = lost_so (losses.Read part) (λ parts told change. change)
    stop_makes (objects.Part part stretches.Changed) leaves tells =
        lost_so (losses.Changed part) (λ parts told change. (tells parts told).1)
    stop_makes (objects.Sink segments.NoSubRecord) leaves tells = lost_so losses.Objects (λ parts told change. (tells parts told).0)
    stop_makes (objects.Sink (segments.Write fault)) leaves tells =
        failed left health pulls limits old new written well IsText Refuses before after fault
        (stopped left health pulls limits old new HaveObject (writes.Write fault)
        (all_read_so left health pulls limits old new some stored out))
        leaves front
