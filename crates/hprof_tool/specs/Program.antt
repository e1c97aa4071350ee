-- What the program's calls come to.
use Rattle.std.specs.Prelude.{◌≡◌, ◌≢◌, ℕ, List, [], ◌∷◌, ◌++◌, Option, Some, None, ⊤, codes, decimal}
use Rattle.std.specs.Borrow.{Bor}
use Rattle.clap.specs.declared.error.ErrorKind.{ErrorKind}
use Rattle.clap.specs.declared.error.ErrorKind.TheVariants as kinds
use Rattle.hprof_stream.specs.declared.limits.Limits.{Limits}
use Rattle.hprof_rows.specs.HeapValue.{HeapValue}
use Rattle.hprof_heap.specs.State.{HaveTwoSizes}
use Rattle.hprof_engine.specs.declared.loss.Loss.TheVariants as losses
use Rattle.hprof_engine.specs.declared.tool_fault.ToolFault.{ToolFault}
use Rattle.hprof_engine.specs.declared.tool_fault.ToolFault.TheVariants as tool
use Rattle.hprof_tool.specs.Folder.{Answered, AreOpened, CannotOpenAt}
use Rattle.hprof_tool.specs.declared.program.refused.Refused.{Refused}
use Rattle.hprof_tool.specs.declared.program.refused.Refused.TheVariants as refusals
use Rattle.hprof_tool.specs.declared.status.Status.{Status}
use Rattle.hprof_tool.specs.declared.status.Status.TheVariants as statuses
use Rattle.hprof_engine.specs.Joining.{Tell, Agree, Disagree, RefusesPart}
use Rattle.hprof_engine.specs.Makes.{IsChange, Making, Makes, WritesAll}
use Rattle.hprof_devices.specs.declared.health.Health.{Health}
use Rattle.hprof_devices.specs.declared.health.Health.TheVariants as healths
use Rattle.hprof_engine.specs.FaultText.{IsFaultText}

-- the limits with which the program reads: every length that a record can say, 2^40 reads, 2^64 - 1 bytes
abbrev pub usual_limits : Limits
usual_limits = record { max_item = 4294967295; max_reads = 1099511627776; max_bytes = 18446744073709551615 }

-- left, health, pulls: what a reader has left to tell, how it is doing, how often it was pulled;  old, new: the readers, before and
-- afterwards
module _ {R : Type 0} (left : R → Option (List ℕ)) (health : R → Health) (pulls : R → ℕ) (old new : List R) where
  -- what a refusal to make something of the parts that readers tell says of them: of a part that could not be read, that its reader failed;
  -- of objects that are lost, that they are read again, and that no part has changed
  abbrev pub IsRefusal : Making → Refused → List (List ℕ) → Type 0
  IsRefusal making (refusals.Engine (tool.Part index fault)) parts =
      RefusesPart left health pulls making.TakesKnown usual_limits parts old new index fault
  IsRefusal making (refusals.Engine tool.NoParts) parts = parts ≡ []
  IsRefusal making (refusals.Engine tool.IdSizes) parts = HaveTwoSizes parts
  IsRefusal making (refusals.Engine (tool.Conflict key)) parts = Disagree parts key
  IsRefusal making (refusals.Engine (tool.Write fault)) parts = (text : List ℕ) × making.IsMade parts text
  IsRefusal making (refusals.Engine (tool.Refused refusal)) parts =
      (heap : HeapValue) × making.Refuses refusal heap × Agree parts heap.ids heap.millis heap.facts
  IsRefusal making (refusals.Engine (tool.Lost loss)) parts = making.ReadsAgain × (IsChange loss → ⊥)
  IsRefusal making (refusals.Engine tool.OutOfMemory) parts = ⊥
  IsRefusal making (refusals.Dump place fault) parts = ⊥
  IsRefusal making (refusals.Open index) parts = ⊥
  IsRefusal making refusals.Create parts = ⊥
  IsRefusal making refusals.Questions parts = ⊥
  IsRefusal making refusals.OutOfMemory parts = ⊤

-- the parts of these names were opened, and this holds of what they tell
--   answered: what came of the names;  left: what a part has left to tell
pub record OfParts {P W : Type 0} (answered : Answered P W) (left : P → Option (List ℕ)) (names : List (Bor (List ℕ)))
    (Holds : List (List ℕ) → Type 0) : Type 0 where
  pub parts : List P
  pub opened : AreOpened answered names parts
  pub holds : (told : List (List ℕ)) → Tell left parts told → Holds told

-- the same, of the parts as they were opened and as they were read, too
pub record OfReadParts {P W : Type 0} (answered : Answered P W) (left : P → Option (List ℕ)) (names : List (Bor (List ℕ)))
    (Holds : (old new : List P) → List (List ℕ) → Type 0) : Type 0 where
  pub old : List P
  pub new : List P
  pub opened : AreOpened answered names old
  pub holds : (told : List (List ℕ)) → Tell left old told → Holds old new told

-- what is made of the part that a stream gave, where it told one, was written to another
--   IsMade: the text is made of the parts
--   remaining, contents: what a stream has left to tell, and what one tells that it holds
abbrev pub IsMadeOfStream : {I O : Type 0} → (IsMade : List (List ℕ) → List ℕ → Type 0) → (I → Option (List ℕ)) → (O → Option (List ℕ))
    → I → O → O → Type 0
IsMadeOfStream IsMade remaining contents input old new =
    (part : List ℕ) → remaining input ≡ Some part → WritesAll IsMade (part ∷ []) (contents old) (contents new)

-- what is made of the parts of these names was written to a stream
abbrev pub IsMadeOfFiles : {P W O : Type 0} → (IsMade : List (List ℕ) → List ℕ → Type 0) → Answered P W → (P → Option (List ℕ))
    → (O → Option (List ℕ)) → List (Bor (List ℕ)) → O → O → Type 0
IsMadeOfFiles IsMade answered left contents names old new =
    OfParts answered left names (λ parts. WritesAll IsMade parts (contents old) (contents new))

-- what is made of the parts of these names was written to the file of that name, to what it held as it was created, and this it is now
abbrev pub IsMadeInFile : {P W : Type 0} → (IsMade : List (List ℕ) → List ℕ → Type 0) → Answered P W → (P → Option (List ℕ))
    → (W → Option (List ℕ)) → List (Bor (List ℕ)) → List ℕ → W → Type 0
IsMadeInFile {P} {W} IsMade answered left contents names out new =
    (old : W) × answered.IsCreated out old × IsMadeOfFiles IsMade answered left contents names old new

-- answered: what came of the names of files;  left, health, pulls: what a part has left to tell, how it is doing, how often it was pulled
module _ {P W : Type 0} (making : Making) (answered : Answered P W) (left : P → Option (List ℕ)) (health : P → Health) (pulls : P → ℕ)
    (names : List (Bor (List ℕ))) where
  -- what a refusal to report on the parts of these names says
  abbrev pub IsReportRefusal : Refused → Type 0
  IsReportRefusal (refusals.Engine tool.OutOfMemory) = ⊥
  IsReportRefusal (refusals.Engine fault) =
      OfReadParts answered left names (λ old new. IsRefusal left health pulls old new making (refusals.Engine fault))
  IsReportRefusal (refusals.Dump place fault) = ⊥
  IsReportRefusal (refusals.Open index) = CannotOpenAt answered names index
  IsReportRefusal refusals.Create = ⊥
  IsReportRefusal refusals.Questions = ⊥
  IsReportRefusal refusals.OutOfMemory = ⊤

  -- what a refusal to make something of them, in a new file of that name, says: no such file is left
  abbrev pub IsFilesRefusal : (out : List ℕ) → Refused → Type 0
  IsFilesRefusal out refusals.Create = answered.CannotCreate out
  IsFilesRefusal out other = IsReportRefusal other × answered.HasNone out

-- how the program refuses what the engine refuses: want of memory is the program's own
abbrev pub refused_of : ToolFault → Refused
refused_of tool.OutOfMemory = refusals.OutOfMemory
refused_of other = refusals.Engine other

-- how it refuses one of two dumps
abbrev pub of_dump : ℕ → Refused → Refused
of_dump place (refusals.Engine (tool.Write fault)) = refusals.Engine (tool.Write fault)
of_dump place (refusals.Engine fault) = refusals.Dump place fault
of_dump place other = other

-- the fault of the only part of a dump, with the number of the dump as that of the part; other faults are of no part
abbrev pub of_only_part : ℕ → ToolFault → Option ToolFault
of_only_part place (tool.Part index fault) = Some (tool.Part place fault)
of_only_part place (tool.Lost (losses.Changed index)) = Some (tool.Lost (losses.Changed place))
of_only_part place (tool.Lost (losses.Read index)) = Some (tool.Lost (losses.Read place))
of_only_part place other = None

-- this is the text of a fault of the dump at that place, by the fault of its only part, if it is one
abbrev pub IsDumpFaultText : ℕ → ToolFault → Option ToolFault → List ℕ → Type 0
IsDumpFaultText place fault (Some of_part) text = IsFaultText of_part text
IsDumpFaultText place fault None text =
    (why : List ℕ) × IsFaultText fault why × (text ≡ codes "part " ++ (decimal place ++ (codes ": " ++ why)))

-- this is the text of a refusal of the dump at that place: that of its part, or `part`, its number, and why
abbrev pub IsDumpRefusalText : ℕ → ToolFault → List ℕ → Type 0
IsDumpRefusalText place fault text = IsDumpFaultText place fault (of_only_part place fault) text

-- this is the text of a refusal
abbrev pub IsRefusalText : Refused → List ℕ → Type 0
IsRefusalText (refusals.Engine fault) text = IsFaultText fault text
IsRefusalText (refusals.Dump place fault) text = IsDumpRefusalText place fault text
IsRefusalText (refusals.Open index) text = text ≡ codes "cannot open part " ++ decimal index
IsRefusalText refusals.Create text = text ≡ codes "cannot create the output"
IsRefusalText refusals.Questions text = text ≡ codes "read failed"
IsRefusalText refusals.OutOfMemory text = text ≡ codes "out of memory"

-- the engine refused, or there was no memory
abbrev pub IsOfMaking : Refused → Type 0
IsOfMaking (refusals.Engine tool.OutOfMemory) = ⊥
IsOfMaking (refusals.Engine fault) = ⊤
IsOfMaking refusals.OutOfMemory = ⊤
IsOfMaking other = ⊥

-- the first of these files that could not be opened is told, or there was no memory
abbrev pub IsOfOpening : {P W : Type 0} → Answered P W → List (Bor (List ℕ)) → Refused → Type 0
IsOfOpening answered names (refusals.Open index) = CannotOpenAt answered names index
IsOfOpening answered names refusals.OutOfMemory = ⊤
IsOfOpening answered names other = ⊥

-- the file of that name could not be created, or there was no memory, and no new file is left
abbrev pub IsOfCreating : {P W : Type 0} → Answered P W → (out : List ℕ) → Refused → Type 0
IsOfCreating answered out refusals.Create = answered.CannotCreate out
IsOfCreating answered out refusals.OutOfMemory = answered.HasNone out
IsOfCreating answered out other = ⊥

-- a part could not be opened, or behind them the new file could not be created, or there was no memory, and no new file is left
abbrev pub IsOfStarting : {P W : Type 0} → Answered P W → List (Bor (List ℕ)) → (out : List ℕ) → Refused → Type 0
IsOfStarting answered names out (refusals.Open index) = CannotOpenAt answered names index × answered.HasNone out
IsOfStarting answered names out other = IsOfCreating answered out other

-- as `Makes` with the usual limits, for a stream whose health nothing tells
--   held, holds: what the stream and the buffer before it hold, before and afterwards, where the stream tells
abbrev pub MakesStream : {R : Type 0} → (R → Option (List ℕ)) → (R → Health) → (R → ℕ) → Making → (old new : List R)
    → (held holds : Option (List ℕ)) → Option ToolFault → Type 0
MakesStream left health pulls making old new held holds ended = (end : Health)
    × Makes {W = Option (List ℕ) × Health} left health pulls (λ stream. stream.0) (λ stream. stream.1) usual_limits making old new
    (held, healths.Well) (holds, end) ended

-- the status of words that ask for help, or are not understood, by the kind that clap tells
abbrev pub IsStatusOfWords : ErrorKind → Status → Type 0
IsStatusOfWords kinds.OutOfMemory status = status ≡ statuses.Refused
IsStatusOfWords kinds.DisplayHelp status = status ≢ statuses.NotUnderstood
IsStatusOfWords kinds.DisplayVersion status = status ≢ statuses.NotUnderstood
IsStatusOfWords other status = status ≡ statuses.NotUnderstood
