-- What is left of a stream to which something was to be written.
use Rattle.std.specs.Prelude.{◌≡◌, ◌⊎◌, ℕ, List, [], ◌∷◌, Option, Some, None, ⊤}
use Rattle.std.specs.Borrow.{Bor}
use Rattle.std.specs.Io.KnownBytes.{append_known}
use Rattle.hprof_devices.specs.declared.health.Health.{Health}
use Rattle.hprof_engine.specs.declared.tool_fault.ToolFault.{ToolFault}
use Rattle.hprof_engine.specs.declared.tool_fault.ToolFault.TheVariants as tool
use Rattle.hprof_engine.specs.Joining.{IsBeforeWriting}
use Rattle.hprof_engine.specs.Makes.{Making, WritesFront, IsDump}
use Rattle.hprof_stored.specs.StoredMaking.{stored_dump_making}
use Rattle.hprof_tool.specs.declared.program.refused.Refused.{Refused}
use Rattle.hprof_tool.specs.declared.program.refused.Refused.TheVariants as refusals
use Rattle.hprof_tool.specs.Folder.{Answered}
use Rattle.hprof_tool.specs.Program.{MakesStream, OfParts, IsRefusal, IsReportRefusal, refused_of}

module _ {R W : Type 0} (left : R → Option (List ℕ)) (health : R → Health) (pulls : R → ℕ) (making : Making) (old new : List R)
    (contents : W → Option (List ℕ)) (before : W) (refused : Refused) where
  -- making something into a stream was refused so, and the stream is that now: as it was where nothing was written, and otherwise
  -- what it holds is what it is to hold, but for some bytes at the end
  pub record LeavesStream (after : W) : Type 0 where
    pub fault : ToolFault
    pub is : refused ≡ refused_of fault
    pub unwritten : List ℕ
    pub makes : MakesStream left health pulls making old new (contents before) (append_known (contents after) unwritten) (Some fault)
    pub untouched : IsBeforeWriting (Some fault) → after ≡ before

  -- the same, where the stream may be gone: there was no memory for the buffer before it, and nothing was read
  abbrev pub StopsStream : Option W → Type 0
  StopsStream (Some after) = LeavesStream after
  StopsStream None = (refused ≡ refusals.OutOfMemory) × (new ≡ old)

-- nothing was written, or a front of a text, but for some bytes at the end
--   IsFront: a front of the text stands behind what the stream held, and this is what it holds then
abbrev pub LeavesFront : {O : Type 0} → (O → Option (List ℕ)) → (IsFront : Option (List ℕ) → Option (List ℕ) → Type 0) → O → O → Type 0
LeavesFront contents IsFront old new = (unwritten : List ℕ)
    × ((append_known (contents new) unwritten ≡ contents old) ⊎ IsFront (contents old) (append_known (contents new) unwritten))

-- what a refusal leaves of a stream to which a front of a text may have been written: the very stream where nothing was written; it
-- is gone for want of memory alone
--   IsFront: a front of the text stands behind what the stream held, and this is what it holds then
abbrev pub Leaves : {O : Type 0} → (O → Option (List ℕ)) → (IsFront : Option (List ℕ) → Option (List ℕ) → Type 0) → Refused → O → Option O
    → Type 0
Leaves contents IsFront (refusals.Engine (tool.Write fault)) old (Some new) =
    (unwritten : List ℕ) × IsFront (contents old) (append_known (contents new) unwritten)
Leaves contents IsFront (refusals.Engine (tool.Lost loss)) old (Some new) = LeavesFront contents IsFront old new
Leaves contents IsFront (refusals.Dump place (tool.Lost loss)) old (Some new) = LeavesFront contents IsFront old new
Leaves contents IsFront refusals.OutOfMemory old (Some new) = LeavesFront contents IsFront old new
Leaves contents IsFront refusals.OutOfMemory old None = ⊤
Leaves contents IsFront other old new = new ≡ Some old

-- a front of what is made of the part that a stream gave, where it told one
abbrev pub IsFrontOfStream : {I : Type 0} → (IsMade : List (List ℕ) → List ℕ → Type 0) → (I → Option (List ℕ)) → I
    → (held holds : Option (List ℕ)) → Type 0
IsFrontOfStream IsMade remaining input held holds =
    (part : List ℕ) → remaining input ≡ Some part → WritesFront IsMade (part ∷ []) held holds

-- a front of what is made of the parts of these names
abbrev pub IsFrontOfFiles : {P W : Type 0} → (IsMade : List (List ℕ) → List ℕ → Type 0) → Answered P W → (P → Option (List ℕ))
    → List (Bor (List ℕ)) → (held holds : Option (List ℕ)) → Type 0
IsFrontOfFiles IsMade answered left names held holds = OfParts answered left names (λ parts. WritesFront IsMade parts held holds)

-- what a refusal to join what a reader gave says of it, and leaves of the stream that was to be written to
--   left, health, pulls: what a reader has left to tell, how it is doing, how often it was pulled
abbrev pub RefusesStream : {I O : Type 0} → (I → Option (List ℕ)) → (I → Health) → (I → ℕ) → (O → Option (List ℕ)) → I → (old : O) → Refused
    → (new : Option O) → Type 0
RefusesStream {I} left health pulls contents input old why new =
    ((read : List I) × ((part : List ℕ) → left input ≡ Some part
    → IsRefusal left health pulls (input ∷ []) read stored_dump_making why (part ∷ [])))
    × Leaves contents (IsFrontOfStream IsDump left input) why old new

-- what a refusal to report on the parts of these names says of them, and leaves of the stream
abbrev pub RefusesReport : {P W O : Type 0} → Making → Answered P W → (P → Option (List ℕ)) → (P → Health) → (P → ℕ)
    → (O → Option (List ℕ)) → List (Bor (List ℕ)) → (old : O) → Refused → (new : Option O) → Type 0
RefusesReport making answered left health pulls contents names old why new = IsReportRefusal making answered left health pulls names why
    × Leaves contents (IsFrontOfFiles making.IsMade answered left names) why old new
