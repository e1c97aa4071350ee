-- What joining parts answers, and what it writes.
use Rattle.std.specs.Prelude.{◌≡◌, ◌⊎◌, ℕ, ◌+◌, ◌<◌, ◌≤◌, Bool, true, false, List, [], ◌∷◌, ◌++◌, length, take, map, Option, Some, None}
use Rattle.std.specs.Prelude.{Result, Ok, Err, ⊤, slice_get}
use Rattle.std.specs.List.{AllByRecursion}
use Rattle.std.specs.Io.KnownBytes.{Consumes, IsAtEnd}
use Rattle.hprof_devices.specs.declared.health.Health.{Health}
use Rattle.hprof_devices.specs.declared.health.Health.TheVariants as healths
use Rattle.hprof_values.specs.declared.ids.IdSize.{IdSize}
use Rattle.hprof_items.specs.FactValue.{FactValue}
use Rattle.hprof_stream.specs.declared.limits.Limits.{Limits}
use Rattle.hprof_stream.specs.declared.part_fault.PartFault.{PartFault}
use Rattle.hprof_stream.specs.declared.part_fault.PartFault.TheVariants as faults
use Rattle.hprof_stream.specs.declared.sink.SinkFault.TheVariants as sinks
use Rattle.hprof_stream.specs.Part.{IsPart, all_facts}
use Rattle.hprof_stream.specs.Item.{header_before}
use Rattle.hprof_stream.specs.Reader.{IsReadingFault, PulledOut}
use Rattle.hprof_stream.specs.Fault.{HasNoFault, IsFirstFault}
use Rattle.hprof_rows.specs.declared.key.Key.{Key}
use Rattle.hprof_rows.specs.Conflict.{IsConsistent, IsLeastConflict}
use Rattle.hprof_rows.specs.Order.{IsCanonicalOrder}
use Rattle.hprof_heap.specs.Gathering.{Gathered, Given, Gathers, IsNewBehind}
use Rattle.hprof_heap.specs.State.{IsState}
use Rattle.hprof_engine.specs.declared.tool_fault.ToolFault.{ToolFault}
use Rattle.hprof_engine.specs.declared.tool_fault.ToolFault.TheVariants as tool
use Rattle.hprof_engine.specs.declared.loss.Loss.TheVariants as losses
use Rattle.hprof_engine.specs.declared.joined.Joined.{Joined}

-- the readers tell these parts, and no more
abbrev pub Tell : {R : Type 0} → (R → Option (List ℕ)) → List R → List (List ℕ) → Type 0
Tell left readers parts = map left readers ≡ map Some parts

-- the facts that the parts state agree, and these are they, in canonical order, with the size and the earliest time
pub record Agree (parts : List (List ℕ)) (ids : IdSize) (millis : ℕ) (rows : List FactValue) : Type 0 where
  pub state : IsState parts ids millis rows
  pub consistent : IsConsistent rows
  pub ordered : IsCanonicalOrder rows

-- so many parts were joined, and so many facts do they state
pub record AreJoined (parts : List (List ℕ)) (joined : Joined) : Type 0 where
  pub ids : IdSize
  pub millis : ℕ
  pub rows : List FactValue
  pub agree : Agree parts ids millis rows
  pub parts_count : joined.parts ≡ length parts
  pub facts_count : joined.facts ≡ length rows

-- the parts do not agree, and this is the least key with two contents
pub record Disagree (parts : List (List ℕ)) (key : Key) : Type 0 where
  pub ids : IdSize
  pub millis : ℕ
  pub facts : List FactValue
  pub state : IsState parts ids millis facts
  pub least : IsLeastConflict facts key

-- a part was read to its end: its bytes are items and no more, and neither they nor one item are over its limit
abbrev pub IsAccepted : Limits → List ℕ → Type 0
IsAccepted limits bytes = HasNoFault limits.max_item bytes × (length bytes ≤ limits.max_bytes)

-- what a reader had to tell, if it told, is a part that was read to its end and states what was given
abbrev pub IsGiven : Limits → Option (List ℕ) → Given → Type 0
IsGiven limits None part = ⊤
IsGiven limits (Some bytes) part =
    IsAccepted limits bytes × IsPart bytes part.header.ids part.header.millis part.facts

abbrev pub AreGiven : Limits → List (Option (List ℕ)) → List Given → Type 0
AreGiven limits [] [] = ⊤
AreGiven limits (left ∷ lefts) (part ∷ parts) = IsGiven limits left part × AreGiven limits lefts parts
AreGiven limits [] (part ∷ parts) = ⊥
AreGiven limits (left ∷ lefts) [] = ⊥

-- memory is taken for no fact that is known
abbrev pub none_known : List FactValue → Type 0
none_known facts = ⊥

module _ {R : Type 0} (left : R → Option (List ℕ)) (health : R → Health) (pulls : R → ℕ) (TakesKnown : List FactValue → Type 0) where
  -- with which fault a part is refused of which these bytes came: an item is refused for want of memory alone, and states
  -- a fact that is new behind what the parts before it gave, or facts for which memory is taken also where they are known
  --   TakesKnown: memory is taken for the facts of an item, also where all of them are known
  --   earlier: what these gave;  was, is: the reader, before and afterwards
  abbrev pub IsPartFault : Limits → List Given → R → List ℕ → R → PartFault → Type 0
  IsPartFault limits earlier was came is (faults.Sink sinks.OutOfMemory) =
      (why : IsReadingFault left health pulls limits was came is (faults.Sink sinks.OutOfMemory))
      × (TakesKnown why.1.whole.last.facts
      ⊎ IsNewBehind earlier (header_before why.1.whole.before) (all_facts why.1.whole.items) why.1.whole.last.facts)
  IsPartFault limits earlier was came is (faults.Sink sinks.Failed) = ⊥
  IsPartFault limits earlier was came is fault = IsReadingFault left health pulls limits was came is fault

-- a fault of an item is the first of the whole part; a part with too many bytes has more than may be taken, and one that takes
-- too many reads at least as many as these
abbrev pub IsOfPart : Limits → List ℕ → PartFault → Type 0
IsOfPart limits bytes (faults.Malformed at reason) = IsFirstFault limits.max_item bytes (faults.Malformed at reason)
IsOfPart limits bytes (faults.ItemTooLong at) = IsFirstFault limits.max_item bytes (faults.ItemTooLong at)
IsOfPart limits bytes faults.BytesExceeded = limits.max_bytes < length bytes
IsOfPart limits bytes faults.ReadsExceeded = limits.max_reads ≤ length bytes
IsOfPart limits bytes other = ⊤

module _ {R : Type 0} (left : R → Option (List ℕ)) (health : R → Health) (pulls : R → ℕ) where
  -- a reader was read to its end over these bytes, which were accepted: it is well, each pull gave a byte, and the last
  -- one that there is nothing more
  pub record IsReadOut (limits : Limits) (was is : R) : Type 0 where
    pub came : List ℕ
    pub consumed : Consumes (left was) (left is) came
    pub pulled : PulledOut left pulls limits was came is
    pub at_end : IsAtEnd (left is)
    pub accepted : IsAccepted limits came
    pub well : health is ≡ healths.Well
    pub spared : pulls is ≤ pulls was + limits.max_reads

  -- so many readers, from the first on, were read to their ends
  abbrev pub AreReadOut : Limits → List R → List R → ℕ → Type 0
  AreReadOut limits old new count =
      (k : ℕ) → k < count → (was : R) × (is : R) × (slice_get old k ≡ Some was) × (slice_get new k ≡ Some is) × IsReadOut limits was is

module _ {R : Type 0} (left : R → Option (List ℕ)) (health : R → Health) (pulls : R → ℕ) (TakesKnown : List FactValue → Type 0) where
  -- the reader at that place was read over these bytes and was refused with the fault; those behind it were not touched
  --   earlier: what the parts before it gave
  pub record RefusesAt (limits : Limits) (earlier : List Given) (old new : List R) (index : ℕ) (fault : PartFault) : Type 0 where
    pub was : R
    pub is : R
    pub was_there : slice_get old index ≡ Some was
    pub is_there : slice_get new index ≡ Some is
    pub came : List ℕ
    pub consumed : Consumes (left was) (left is) came
    pub spared : pulls is ≤ pulls was + limits.max_reads
    pub refused : IsPartFault left health pulls TakesKnown limits earlier was came is fault
    pub unread : (k : ℕ) → index < k → slice_get new k ≡ slice_get old k

  -- the part at that place was refused with the fault; all parts before it were read to their ends
  pub record RefusesPart (limits : Limits) (parts : List (List ℕ)) (old new : List R) (index : ℕ) (fault : PartFault) : Type 0 where
    pub before : List (List ℕ)
    pub bytes : List ℕ
    pub after : List (List ℕ)
    pub in_order : parts ≡ before ++ bytes ∷ after
    pub place : length before ≡ index
    pub accepted : AllByRecursion (IsAccepted limits) before
    pub given : List Given
    pub stated : AreGiven limits (map Some before) given
    pub at : RefusesAt limits given old new index fault
    pub told : left at.was ≡ Some bytes
    pub of_part : IsOfPart limits bytes fault

-- ---- reading all parts

module _ {R : Type 0} (left : R → Option (List ℕ)) where
  -- so many readers were read to their ends, and the gatherer was given their parts
  pub record GathersFirst (limits : Limits) (old : List R) (count : ℕ) (from to : Gathered) : Type 0 where
    pub given : List Given
    pub of_readers : AreGiven limits (map left (take count old)) given
    pub gathers : Gathers from given to

module _ {R : Type 0} (left : R → Option (List ℕ)) (health : R → Health) (pulls : R → ℕ) where
  -- the reader at that place was refused, and those before it were not
  pub record RefusesReader (limits : Limits) (old new : List R) (index : ℕ) (fault : PartFault) (from : Gathered) : Type 0 where
    pub mid : Gathered
    pub before : GathersFirst left limits old index from mid
    pub out : AreReadOut left health pulls limits old new index
    pub at : RefusesAt left health pulls none_known limits before.given old new index fault

  -- all readers were read to their ends, or one was refused
  abbrev pub ReadsAll : Limits → List R → Gathered → Result (Unit {0}) ToolFault → List R → Gathered → Type 0
  ReadsAll limits old from (Ok done) new to = GathersFirst left limits old (length old) from to
      × AreReadOut left health pulls limits old new (length old)
  ReadsAll limits old from (Err (tool.Part index fault)) new to = RefusesReader limits old new index fault from
  ReadsAll limits old from (Err other) new to = ⊥

-- ---- how a call ended

-- the fault that a call ended with, if any
abbrev pub fault_of : {A : Type 0} → Result A ToolFault → Option ToolFault
fault_of (Ok done) = None
fault_of (Err fault) = Some fault

-- how many of the readers were read to their ends: all, or those before the one that was refused; of want of memory that is
-- not a part's own, and of scratch that failed, this says nothing
abbrev pub read_count : Option ToolFault → ℕ → ℕ
read_count (Some (tool.Part index fault)) all = index
read_count (Some tool.OutOfMemory) all = 0
read_count (Some (tool.Lost losses.Scratch)) all = 0
read_count other all = all

-- all parts were read
abbrev pub AreRead : Option ToolFault → Type 0
AreRead (Some (tool.Part index fault)) = ⊥
AreRead (Some tool.OutOfMemory) = ⊥
AreRead (Some (tool.Lost losses.Scratch)) = ⊥
AreRead other = ⊤

-- want of memory was answered, or a limit was met
abbrev pub is_resource_fault : PartFault → Bool
is_resource_fault faults.OutOfMemory = true
is_resource_fault (faults.Sink sinks.OutOfMemory) = true
is_resource_fault (faults.ItemTooLong at) = true
is_resource_fault faults.ReadsExceeded = true
is_resource_fault faults.BytesExceeded = true
is_resource_fault (faults.Sink sinks.Failed) = false
is_resource_fault (faults.Malformed at reason) = false
is_resource_fault faults.Failed = false
is_resource_fault faults.Read = false

abbrev pub IsHindered : Option ToolFault → Type 0
IsHindered (Some (tool.Part index fault)) = is_resource_fault fault ≡ true
IsHindered (Some tool.OutOfMemory) = ⊤
IsHindered (Some (tool.Refused refusal)) = ⊤
IsHindered (Some (tool.Lost loss)) = ⊤
IsHindered other = ⊥

abbrev pub IsOkOrConflict : Option ToolFault → Type 0
IsOkOrConflict None = ⊤
IsOkOrConflict (Some (tool.Conflict key)) = ⊤
IsOkOrConflict other = ⊥

-- what is refused before anything is written
abbrev pub IsBeforeWriting : Option ToolFault → Type 0
IsBeforeWriting None = ⊥
IsBeforeWriting (Some (tool.Write fault)) = ⊥
IsBeforeWriting (Some tool.OutOfMemory) = ⊥
IsBeforeWriting (Some (tool.Lost loss)) = ⊥
IsBeforeWriting (Some other) = ⊤

-- what reading alone answers
abbrev pub IsOfReading : Option ToolFault → Type 0
IsOfReading (Some (tool.Write fault)) = ⊥
IsOfReading (Some tool.OutOfMemory) = ⊥
IsOfReading (Some (tool.Refused refusal)) = ⊥
IsOfReading (Some (tool.Lost loss)) = ⊥
IsOfReading other = ⊤
