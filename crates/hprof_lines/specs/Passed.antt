-- What writing a report comes to that is made of a pass over objects.
use Rattle.std.specs.Prelude.{◌≡◌, ◌≤◌, ◌⊎◌, ℕ, List, length, take, Option, Result, Ok, Err}
use Rattle.std.specs.Io.KnownBytes.{Appends}
use Rattle.hprof_devices.specs.declared.health.Health.{Health}
use Rattle.hprof_devices.specs.declared.health.Health.TheVariants.{Well}
use Rattle.hprof_devices.specs.declared.health.WriteFault.{WriteFault}
use Rattle.hprof_devices.specs.Device.{health_after}
use Rattle.hprof_items.specs.FactValue.{FactValue}
use Rattle.hprof_passes.specs.declared.pass_fault.PassFault.{PassFault}
use Rattle.hprof_passes.specs.declared.pass_fault.PassFault.TheVariants.{Sink, Lost}
use Rattle.hprof_engine.specs.declared.product.ProductFault.{ProductFault}
use Rattle.hprof_engine.specs.declared.product.ProductFault.TheVariants as stops

-- the fault with which a report stops, where a pass before the first byte stopped
abbrev pub stop_of_pass : {E F : Type 0} → PassFault E F → PassFault ProductFault F
stop_of_pass (Sink fault) = Sink stops.OutOfMemory
stop_of_pass (Lost fault) = Lost fault

-- the text of whatever facts the objects make up with those of a heap was written, or the first bytes of it
--   MakeUp: they make up these facts;  IsText: the text is the report of them
abbrev pub WritesWhole : (MakeUp : List FactValue → Type 0) → (IsText : List FactValue → List ℕ → Type 0) → (old new : Option (List ℕ))
    → Type 0
WritesWhole MakeUp IsText old new = (all : List FactValue) → MakeUp all → (text : List ℕ) × IsText all text × Appends old new text

abbrev pub WritesSome : (MakeUp : List FactValue → Type 0) → (IsText : List FactValue → List ℕ → Type 0) → (old new : Option (List ℕ))
    → Type 0
WritesSome MakeUp IsText old new = (all : List FactValue) → MakeUp all
    → (text : List ℕ) × (n : ℕ) × (n ≤ length text) × IsText all text × Appends old new (take n text)

-- how the writing of a report ends; where it stops before a byte is written, the writer is as it was
--   agree: the objects and the facts of the heap are those of some heap;  tells: what a fault of a pass says
--   written, well: what a writer holds, where it tells, and how it is doing;  old, new: the writer
module _ {W F : Type 0} (MakeUp : List FactValue → Type 0) (agree : Type 0) (tells : F → Type 0) (IsText : List FactValue → List ℕ → Type 0)
    (written : W → Option (List ℕ)) (well : W → Health) (old new : W) where
  abbrev pub EndsPassed : {A : Type 0} → Result A (PassFault ProductFault F) → Type 0
  EndsPassed (Ok done) = agree × WritesWhole MakeUp IsText (written old) (written new) × (well new ≡ Well)
  EndsPassed (Err (Lost fault)) = tells fault × (new ≡ old)
  EndsPassed (Err (Sink stops.OutOfMemory)) =
      (new ≡ old) ⊎ (agree × WritesSome MakeUp IsText (written old) (written new) × (well new ≡ Well))
  EndsPassed (Err (Sink (stops.Write fault))) =
      agree × WritesSome MakeUp IsText (written old) (written new) × (well new ≡ health_after fault)
  EndsPassed (Err (Sink (stops.Refused refusal))) = ⊥

  -- the same of a report that takes no memory itself
  abbrev pub EndsChecked : {A : Type 0} → Result A (PassFault WriteFault F) → Type 0
  EndsChecked (Ok done) = agree × WritesWhole MakeUp IsText (written old) (written new) × (well new ≡ Well)
  EndsChecked (Err (Lost fault)) = tells fault × (new ≡ old)
  EndsChecked (Err (Sink fault)) = agree × WritesSome MakeUp IsText (written old) (written new) × (well new ≡ health_after fault)
