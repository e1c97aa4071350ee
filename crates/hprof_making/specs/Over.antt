-- How the writing of a product ends that is made of a heap whose objects are gone through.
use Rattle.std.specs.Prelude.{◌≡◌, ◌⊎◌, ℕ, List, Option, Result, Ok, Err}
use Rattle.hprof_devices.specs.declared.health.Health.{Health}
use Rattle.hprof_devices.specs.declared.health.Health.TheVariants.{Well}
use Rattle.hprof_devices.specs.Device.{health_after}
use Rattle.hprof_items.specs.FactValue.{FactValue}
use Rattle.hprof_rows.specs.HeapValue.{HeapValue}
use Rattle.hprof_passes.specs.declared.pass_fault.PassFault.{PassFault}
use Rattle.hprof_passes.specs.declared.pass_fault.PassFault.TheVariants.{Sink, Lost}
use Rattle.hprof_engine.specs.declared.product.ProductFault.{ProductFault}
use Rattle.hprof_engine.specs.declared.product.ProductFault.TheVariants as stops
use Rattle.hprof_engine.specs.declared.heap_fault.HeapFault.{HeapFault}
use Rattle.hprof_lines.specs.Passed.{WritesSome, WritesWhole}

-- the heap with all its facts
abbrev pub heap_with : HeapValue → List FactValue → HeapValue
heap_with heap all = record { ids = heap.ids; millis = heap.millis; facts = all }

-- as a report ends that is made of passes; but the heap may also be refused, before the first byte
--   MakeUp: with the facts of a heap, the objects make up these;  agree: they make up some;  tells: what a fault of a pass says
--   IsText: the text is made of these facts;  Refuses: they are refused for that reason
--   written, well: what a writer holds, where it tells, and how it is doing;  old, new: the writer
module _ {W F : Type 0} (MakeUp : List FactValue → Type 0) (agree : Type 0) (tells : F → Type 0) (IsText : List FactValue → List ℕ → Type 0)
    (Refuses : HeapFault → List FactValue → Type 0) (written : W → Option (List ℕ)) (well : W → Health) (old new : W) where
  abbrev pub EndsOver : {A : Type 0} → Result A (PassFault ProductFault F) → Type 0
  EndsOver (Ok done) = agree × WritesWhole MakeUp IsText (written old) (written new) × (well new ≡ Well)
  EndsOver (Err (Lost fault)) = tells fault × (new ≡ old)
  EndsOver (Err (Sink stops.OutOfMemory)) =
      (new ≡ old) ⊎ (agree × WritesSome MakeUp IsText (written old) (written new) × (well new ≡ Well))
  EndsOver (Err (Sink (stops.Write fault))) =
      agree × WritesSome MakeUp IsText (written old) (written new) × (well new ≡ health_after fault)
  EndsOver (Err (Sink (stops.Refused refusal))) = agree × ((all : List FactValue) → MakeUp all → Refuses refusal all) × (new ≡ old)
