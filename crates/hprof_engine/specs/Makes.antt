-- What a call answers that reads parts, and writes something that is made of them.
use Rattle.std.specs.Prelude.{◌≡◌, ◌⊎◌, ◌↔◌, ℕ, List, [], length, take, All, Option, Some, None, Result, Ok, Err, ⊤}
use Rattle.std.specs.List.{AllByRecursion}
use Rattle.std.specs.Io.KnownBytes.{Appends}
use Rattle.hprof_devices.specs.declared.health.Health.{Health}
use Rattle.hprof_devices.specs.declared.health.Health.TheVariants as healths
use Rattle.hprof_devices.specs.declared.health.WriteFault.{WriteFault}
use Rattle.hprof_devices.specs.Device.{health_after}
use Rattle.hprof_values.specs.declared.ids.IdSize.{IdSize}
use Rattle.hprof_items.specs.FactValue.{FactValue}
use Rattle.hprof_stream.specs.declared.limits.Limits.{Limits}
use Rattle.hprof_stream.specs.declared.part_fault.PartFault.{PartFault}
use Rattle.hprof_stream.specs.declared.summary.PartSummary.{PartSummary}
use Rattle.hprof_rows.specs.declared.key.Key.{Key}
use Rattle.hprof_dump.specs.Dump.{canonical_dump}
use Rattle.hprof_rows.specs.HeapValue.{HeapValue}
use Rattle.hprof_heap.specs.State.{IsState, HaveTwoSizes}
use Rattle.hprof_engine.specs.declared.tool_fault.ToolFault.{ToolFault}
use Rattle.hprof_engine.specs.declared.tool_fault.ToolFault.TheVariants as tool
use Rattle.hprof_engine.specs.declared.loss.Loss.{Loss}
use Rattle.hprof_engine.specs.declared.loss.Loss.TheVariants as losses
use Rattle.hprof_engine.specs.declared.heap_fault.HeapFault.{HeapFault}
use Rattle.hprof_engine.specs.declared.product.ProductFault.{ProductFault}
use Rattle.hprof_engine.specs.declared.product.ProductFault.TheVariants as stops
use Rattle.hprof_engine.specs.Joining.{Tell, Agree, Disagree, IsAccepted, RefusesPart, AreReadOut, read_count, AreRead, IsHindered}
use Rattle.hprof_engine.specs.Joining.{IsOkOrConflict, IsBeforeWriting, none_known}
use Rattle.hprof_engine.specs.Summaries.{AreSummaries}

-- what a call answers of the parts that it reads
--   left, health, pulls: what a reader has left to tell, how it is doing, how often it was pulled
--   TakesKnown: memory is taken for the facts of an item, also where all of them are known
--   old, new: the readers, before and afterwards;  ended: the fault that the call ended with, if any
pub record Reads {R : Type 0} (left : R → Option (List ℕ)) (health : R → Health) (pulls : R → ℕ) (TakesKnown : List FactValue → Type 0)
    (limits : Limits) (old new : List R) (ended : Option ToolFault) : Type 0 where
  -- there are no parts
  pub no_parts : (ended ≡ Some tool.NoParts) ↔ (old ≡ [])
  -- two parts have different sizes
  pub id_sizes : ended ≡ Some tool.IdSizes → (parts : List (List ℕ)) → Tell left old parts → HaveTwoSizes parts
  -- the parts have one size, and this is the least key with two contents
  pub conflict : (key : Key) → ended ≡ Some (tool.Conflict key) → (parts : List (List ℕ)) → Tell left old parts → Disagree parts key
  -- that part was refused with that fault
  pub part : (index : ℕ) (fault : PartFault) → ended ≡ Some (tool.Part index fault) → (parts : List (List ℕ)) → Tell left old parts
      → RefusesPart left health pulls TakesKnown limits parts old new index fault
  -- where all were read, all were accepted
  pub accepted : AreRead ended → (parts : List (List ℕ)) → Tell left old parts → AllByRecursion (IsAccepted limits) parts
  -- of each that was read to its end, which are all, or those before the one that was refused, nothing was read behind the end
  pub read_out : AreReadOut left health pulls limits old new (read_count ended (length old))

-- the loss is a change of what was read
abbrev pub IsChange : Loss → Type 0
IsChange (losses.Changed part) = ⊤
IsChange losses.Objects = ⊤
IsChange (losses.Read part) = ⊥
IsChange losses.Scratch = ⊥

-- what was made of the parts was written
abbrev pub WritesAll : (IsMade : List (List ℕ) → List ℕ → Type 0) (parts : List (List ℕ)) (old new : Option (List ℕ)) → Type 0
WritesAll IsMade parts old new = (text : List ℕ) × IsMade parts text × Appends old new text

-- a front of what was made of the parts was written
abbrev pub WritesFront : (IsMade : List (List ℕ) → List ℕ → Type 0) (parts : List (List ℕ)) (old new : Option (List ℕ)) → Type 0
WritesFront IsMade parts old new = (text : List ℕ) × (count : ℕ) × IsMade parts text × Appends old new (take count text)

-- what is made of parts
pub record Making : Type 1 where
  -- the text is made of the parts
  pub IsMade : List (List ℕ) → List ℕ → Type 0
  -- the heap is refused for that reason, before the first byte
  pub Refuses : HeapFault → HeapValue → Type 0
  -- memory is taken before any of so many parts is read, beside that for reading
  pub TakesRoom : ℕ → Type 0
  -- memory is taken while it is written
  pub TakesMemory : Type 0
  -- memory is taken for the facts of an item, also where all of them are known
  pub TakesKnown : List FactValue → Type 0
  -- objects are read again, or go to scratch
  pub ReadsAgain : Type 0

-- the heap that the parts state is one that is refused
abbrev pub RefusesHeap : {R : Type 0} → (left : R → Option (List ℕ)) → (old : List R) → (Refuses : HeapValue → Type 0) → Type 0
RefusesHeap left old Refuses = (heap : HeapValue) × Refuses heap
    × ((parts : List (List ℕ)) → Tell left old parts → Agree parts heap.ids heap.millis heap.facts)

-- what a call answers that reads all parts, and then writes something that is made of them
--   written, well: what a writer holds, where it tells, and how it is doing
--   before, after: the writer, before and afterwards
pub record Makes {R W : Type 0} (left : R → Option (List ℕ)) (health : R → Health) (pulls : R → ℕ) (written : W → Option (List ℕ))
    (well : W → Health) (limits : Limits) (making : Making) (old new : List R) (before after : W) (ended : Option ToolFault) : Type 0 where
  pub reads : Reads left health pulls making.TakesKnown limits old new ended
  -- Ok: all of it was written, and the writer is well
  pub ok : ended ≡ None → (well after ≡ healths.Well)
      × ((parts : List (List ℕ)) → Tell left old parts → WritesAll making.IsMade parts (written before) (written after))
  -- a refusal before writing leaves the writer as it was
  pub unwritten : IsBeforeWriting ended → after ≡ before
  -- the heap that the parts state is refused for that reason; where they tell nothing, some heap is, unless objects are read again
  pub refused : (refusal : HeapFault) → ended ≡ Some (tool.Refused refusal)
      → (making.ReadsAgain ⊎ RefusesHeap left old (making.Refuses refusal))
      × ((parts : List (List ℕ)) → Tell left old parts → (heap : HeapValue) × making.Refuses refusal heap
      × Agree parts heap.ids heap.millis heap.facts)
  -- the writer failed or stuck, and a front was written
  pub write : (fault : WriteFault) → ended ≡ Some (tool.Write fault) → (well after ≡ health_after fault)
      × ((parts : List (List ℕ)) → Tell left old parts → WritesFront making.IsMade parts (written before) (written after))
  -- objects were lost: they are read again, or go to scratch, and nothing was written, or a front; a part that is told did not change
  pub lost : (loss : Loss) → ended ≡ Some (tool.Lost loss) → making.ReadsAgain
      × ((after ≡ before) ⊎ ((parts : List (List ℕ)) → Tell left old parts
      → WritesFront making.IsMade parts (written before) (written after)))
      × ((parts : List (List ℕ)) → Tell left old parts → IsChange loss → ⊥)
  -- memory was wanted before anything was read or written, or when all was read, and a front was written; of a heap that is refused,
  -- nothing, nor where objects were being read again
  pub memory : ended ≡ Some tool.OutOfMemory → (making.TakesRoom (length old) × (new ≡ old) × (after ≡ before))
      ⊎ (making.TakesMemory × AreReadOut left health pulls limits old new (length old) × (well after ≡ healths.Well)
      × (((parts : List (List ℕ)) → Tell left old parts → WritesFront making.IsMade parts (written before) (written after))
      ⊎ ((making.ReadsAgain ⊎ ((refusal : HeapFault) × RefusesHeap left old (making.Refuses refusal))) × (after ≡ before))))
  -- no other answer where the parts state something together, readers and writer stay well, and nothing hindered it
  pub no_other : (parts : List (List ℕ)) (ids : IdSize) (millis : ℕ) (facts : List FactValue) → Tell left old parts
      → IsState parts ids millis facts → All (λ reader. health reader ≡ healths.Well) new → well after ≡ healths.Well
      → (IsHindered ended → ⊥) → IsOkOrConflict ended

-- ---- products

-- how the writing of a product of one heap ends
--   IsText: this is its text;  Refuses: it is refused for that reason, before the first byte;  TakesMemory: writing it takes memory
abbrev pub EndsWriting : {W : Type 0} → (W → Option (List ℕ)) → (W → Health) → (IsText : List ℕ → Type 0)
    → (Refuses : HeapFault → Type 0) → (TakesMemory : Type 0) → (before after : W) → Result (Unit {0}) ProductFault → Type 0
EndsWriting written well IsText Refuses TakesMemory before after (Ok done) =
    (well after ≡ healths.Well) × ((text : List ℕ) × IsText text × Appends (written before) (written after) text)
EndsWriting written well IsText Refuses TakesMemory before after (Err (stops.Write fault)) =
    (well after ≡ health_after fault) × ((text : List ℕ) × (count : ℕ) × IsText text
    × Appends (written before) (written after) (take count text))
EndsWriting written well IsText Refuses TakesMemory before after (Err stops.OutOfMemory) = TakesMemory
    × (well after ≡ healths.Well)
    × (((text : List ℕ) × (count : ℕ) × IsText text × Appends (written before) (written after) (take count text))
    ⊎ (((refusal : HeapFault) × Refuses refusal) × (after ≡ before)))
EndsWriting written well IsText Refuses TakesMemory before after (Err (stops.Refused refusal)) = Refuses refusal × (after ≡ before)

-- the parts agree, and this is made of their summaries and of the heap that they state
pub record IsMadeOf (IsText : List PartSummary → HeapValue → List ℕ → Type 0) (parts : List (List ℕ)) (text : List ℕ) : Type 0 where
  pub heap : HeapValue
  pub agree : Agree parts heap.ids heap.millis heap.facts
  pub summaries : List PartSummary
  pub of_parts : AreSummaries parts summaries
  pub is : IsText summaries heap text

-- what is made of parts, by what a product says of one heap
abbrev pub making_of : (IsText : List PartSummary → HeapValue → List ℕ → Type 0) (Refuses : HeapFault → HeapValue → Type 0)
    (TakesRoom : ℕ → Type 0) (TakesMemory : Type 0) → Making
making_of IsText Refuses TakesRoom TakesMemory = record {
  IsMade = IsMadeOf IsText;
  Refuses = Refuses;
  TakesRoom = TakesRoom;
  TakesMemory = TakesMemory;
  TakesKnown = none_known;
  ReadsAgain = ⊥;
}

-- the fault that a product's stop is
abbrev pub fault_of_stop : ProductFault → ToolFault
fault_of_stop (stops.Write fault) = tool.Write fault
fault_of_stop stops.OutOfMemory = tool.OutOfMemory
fault_of_stop (stops.Refused refusal) = tool.Refused refusal

-- the canonical dump of a heap
abbrev pub IsDumpText : List PartSummary → HeapValue → List ℕ → Type 0
IsDumpText summaries heap text = text ≡ canonical_dump heap.ids heap.millis heap.facts

-- the parts agree, and these bytes are the canonical dump of the heap that they state
abbrev pub IsDump : List (List ℕ) → List ℕ → Type 0
IsDump = IsMadeOf IsDumpText

-- the canonical dump, which no heap is refused, and takes no memory beside that for reading
abbrev pub dump_making : Making
dump_making = making_of IsDumpText (λ refusal heap. ⊥) (λ parts. ⊥) ⊥
