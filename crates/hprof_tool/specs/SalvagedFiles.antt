-- What saving what can be saved of files comes to.
use Rattle.std.specs.Prelude.{◌⊎◌, ℕ, List, Option, Result, Ok, Err}
use Rattle.std.specs.Borrow.{Bor}
use Rattle.std.specs.Io.KnownBytes.{append_known}
use Rattle.hprof_devices.specs.declared.health.Health.{Health}
use Rattle.hprof_devices.specs.declared.health.Health.TheVariants as healths
use Rattle.hprof_engine.specs.declared.tool_fault.ToolFault.{ToolFault}
use Rattle.hprof_engine.specs.declared.tool_fault.ToolFault.TheVariants as tool
use Rattle.hprof_engine.specs.declared.salvaged.Salvaged.{Salvaged}
use Rattle.hprof_engine.specs.Salvaging.{Salvages}
use Rattle.hprof_stored.specs.SalvagingStored.{SalvagesStored}
use Rattle.hprof_tool.specs.declared.program.refused.Refused.{Refused}
use Rattle.hprof_tool.specs.declared.program.refused.Refused.TheVariants as refusals
use Rattle.hprof_tool.specs.Folder.{Answered, AreOpened, CannotOpenAt}
use Rattle.hprof_tool.specs.Program.{usual_limits}

-- as `Salvages` with the usual limits, or, where objects are read again, as `SalvagesStored`, for a stream whose health nothing tells
--   held, holds: what the stream and the buffer before it hold, before and afterwards, where the stream tells
abbrev pub SalvagesStream : {R : Type 0} → (R → Option (List ℕ)) → (R → Health) → (R → ℕ) → (old new : List R)
    → (held holds : Option (List ℕ)) → Result Salvaged ToolFault → Type 0
SalvagesStream left health pulls old new held holds ended = (end : Health)
    × (Salvages left health pulls usual_limits old new {W = Option (List ℕ) × Health} (λ stream. stream.0) (λ stream. stream.1)
    (held, healths.Well) (holds, end) ended
    ⊎ SalvagesStored left health pulls usual_limits old new {W = Option (List ℕ) × Health} (λ stream. stream.0) (λ stream. stream.1)
    (held, healths.Well) (holds, end) ended)

-- the parts of these names were opened, and saving what can be saved of them, to a stream that held this before and that afterwards,
-- came to that
--   answered: what came of the names;  left, health, pulls: what a part has left to tell, how it is doing, how often it was pulled
pub record SalvagesFiles {P W : Type 0} (answered : Answered P W) (left : P → Option (List ℕ)) (health : P → Health) (pulls : P → ℕ)
    (names : List (Bor (List ℕ))) (held holds : Option (List ℕ)) (ended : Result Salvaged ToolFault) : Type 0 where
  pub old : List P
  pub new : List P
  pub opened : AreOpened answered names old
  pub salvages : SalvagesStream left health pulls old new held holds ended

-- contents: what a file tells that it holds
module _ {P W : Type 0} (answered : Answered P W) (left : P → Option (List ℕ)) (health : P → Health) (pulls : P → ℕ)
    (contents : W → Option (List ℕ)) (names : List (Bor (List ℕ))) (out : List ℕ) where
  -- what is saved of the parts of these names was written to the file of that name, to what it held as it was created, and this it is now
  abbrev pub IsSalvagedFile : Salvaged → W → Type 0
  IsSalvagedFile salvaged new = (old : W) × answered.IsCreated out old
      × SalvagesFiles answered left health pulls names (contents old) (contents new) (Ok salvaged)

  -- what a refusal to save what can be saved of them, in a new file of that name, says: no such file is left
  abbrev pub IsSalvageRefusal : Refused → Type 0
  IsSalvageRefusal (refusals.Engine tool.OutOfMemory) = ⊥
  IsSalvageRefusal (refusals.Engine fault) = (old new : W) × (unwritten : List ℕ) × answered.IsCreated out old
      × SalvagesFiles answered left health pulls names (contents old) (append_known (contents new) unwritten) (Err fault)
      × answered.HasNone out
  IsSalvageRefusal (refusals.Dump place fault) = ⊥
  IsSalvageRefusal (refusals.Open index) = CannotOpenAt answered names index × answered.HasNone out
  IsSalvageRefusal refusals.Create = answered.CannotCreate out
  IsSalvageRefusal refusals.Questions = ⊥
  IsSalvageRefusal refusals.OutOfMemory = answered.HasNone out
