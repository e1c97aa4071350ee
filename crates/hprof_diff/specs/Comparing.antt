-- What a call answers that reads the parts of two heaps, and writes their difference.
use Rattle.std.specs.Prelude.{◌≡◌, ◌⊎◌, ℕ, List, length, All, Option, Some, None, Result, Ok, Err, ⊤}
use Rattle.hprof_devices.specs.declared.health.Health.{Health}
use Rattle.hprof_devices.specs.declared.health.Health.TheVariants as healths
use Rattle.hprof_values.specs.declared.ids.IdSize.{IdSize}
use Rattle.hprof_items.specs.FactValue.{FactValue}
use Rattle.hprof_stream.specs.declared.limits.Limits.{Limits}
use Rattle.hprof_heap.specs.State.{IsState}
use Rattle.hprof_diff.specs.Counts.{Totals}
use Rattle.hprof_engine.specs.declared.tool_fault.ToolFault.{ToolFault}
use Rattle.hprof_engine.specs.declared.tool_fault.ToolFault.TheVariants as tool
use Rattle.hprof_engine.specs.declared.loss.Loss.{Loss}
use Rattle.hprof_engine.specs.Joining.{AreReadOut, IsHindered, IsOkOrConflict, Tell, none_known}
use Rattle.hprof_engine.specs.Makes.{IsChange, Makes, Reads}
use Rattle.hprof_diff.specs.declared.fault.DiffFault.{DiffFault}
use Rattle.hprof_diff.specs.declared.fault.DiffFault.TheVariants as faults
use Rattle.hprof_diff.specs.DifferenceText.{AreTotalsOf, growth_making}

-- nothing was written, and no heap was refused
abbrev pub IsOfCounting : Option ToolFault → Type 0
IsOfCounting (Some (tool.Write fault)) = ⊥
IsOfCounting (Some (tool.Refused refusal)) = ⊥
IsOfCounting other = ⊤

-- what a call answers that reads all parts, and counts the objects of their heap
--   left, health, pulls: what a reader has left to tell, how it is doing, how often it was pulled
--   TakesKnown: memory is taken for the facts of an item, also where all of them are known
--   ReadsAgain: objects are read again, or go to scratch
--   old, new: the readers, before and afterwards;  ended: the fault that the call ended with, if any
pub record Counts {R : Type 0} (left : R → Option (List ℕ)) (health : R → Health) (pulls : R → ℕ) (TakesKnown : List FactValue → Type 0)
    (ReadsAgain : Type 0) (limits : Limits) (old new : List R) (ended : Option ToolFault) : Type 0 where
  pub reads : Reads left health pulls TakesKnown limits old new ended
  pub kind : IsOfCounting ended
  -- objects were lost: they are read again, or go to scratch; a part that is told did not change
  pub lost : (loss : Loss) → ended ≡ Some (tool.Lost loss)
      → ReadsAgain × ((parts : List (List ℕ)) → Tell left old parts → IsChange loss → ⊥)
  -- memory ran out when all parts were read, or, where objects are read again, before any part was
  pub memory : ended ≡ Some tool.OutOfMemory → AreReadOut left health pulls limits old new (length old) ⊎ (ReadsAgain × (new ≡ old))
  -- no other answer where the parts state something together, readers stay well, and nothing hindered it
  pub no_other : (parts : List (List ℕ)) (ids : IdSize) (millis : ℕ) (facts : List FactValue) → Tell left old parts
      → IsState parts ids millis facts → All (λ reader. health reader ≡ healths.Well) new → (IsHindered ended → ⊥) → IsOkOrConflict ended

-- what a call answers of the parts of two heaps
--   written, well: what a writer holds, and how it is doing
--   olds, olds_then; news, news_then; before, after: the readers of the older and of the newer heap and the writer, before and afterwards
module _ {R W : Type 0} (left : R → Option (List ℕ)) (health : R → Health) (pulls : R → ℕ) (written : W → Option (List ℕ))
    (well : W → Health) (limits : Limits) (olds olds_then news news_then : List R) (before after : W) where
  -- the older parts were refused, or memory ran out for them: nothing was read of the newer ones, and nothing was written
  pub record RefusesOld (fault : ToolFault) : Type 0 where
    pub counts : Counts left health pulls none_known ⊥ limits olds olds_then (Some fault)
    pub unread : news_then ≡ news
    pub unwritten : after ≡ before

  -- the older parts were counted, and the report was made of the newer ones
  pub record Compares (ended : Option ToolFault) : Type 0 where
    pub counts : Counts left health pulls none_known ⊥ limits olds olds_then None
    pub totals : Totals
    pub are_totals : (parts : List (List ℕ)) → Tell left olds parts → AreTotalsOf parts totals
    pub makes : Makes left health pulls written well limits (growth_making totals) news news_then before after ended

  abbrev pub EndsDifference : {A : Type 0} → Result A DiffFault → Type 0
  EndsDifference (Ok done) = Compares None
  EndsDifference (Err (faults.New fault)) = Compares (Some fault)
  EndsDifference (Err (faults.Old fault)) = RefusesOld fault
