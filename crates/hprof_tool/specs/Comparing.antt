-- What comparing two dumps comes to.
use Rattle.std.specs.Prelude.{◌≡◌, ◌⊎◌, ℕ, List, [], ◌∷◌, Option, Some, ⊤}
use Rattle.hprof_devices.specs.declared.health.Health.{Health}
use Rattle.hprof_rows.specs.HeapValue.{HeapValue}
use Rattle.hprof_engine.specs.declared.tool_fault.ToolFault.{ToolFault}
use Rattle.hprof_engine.specs.declared.tool_fault.ToolFault.TheVariants as tool
use Rattle.hprof_engine.specs.Joining.{Agree, Tell}
use Rattle.hprof_engine.specs.Makes.{Making, WritesAll, WritesFront}
use Rattle.hprof_stored.specs.StoredMaking.{stored_dump_making, stored_making}
use Rattle.hprof_diff.specs.Counts.{Totals}
use Rattle.hprof_diff.specs.DifferenceText.{IsDifferenceOf, IsGrowthReport}
use Rattle.hprof_tool.specs.declared.program.refused.Refused.{Refused}
use Rattle.hprof_tool.specs.declared.program.refused.Refused.TheVariants as refusals
use Rattle.hprof_tool.specs.Folder.{Answered}
use Rattle.hprof_tool.specs.Program.{IsRefusal}
use Rattle.hprof_tool.specs.Streams.{Leaves}

-- ---- parts

-- what is made of the newer parts beside the totals of the older ones; the objects of both may be read again
abbrev pub growth_of_parts : Totals → Making
growth_of_parts old = stored_making (IsGrowthReport old) (λ refusal heap. ⊥)

-- the parts were refused, or the writer failed, or there was no memory
abbrev pub IsOfComparing : Refused → Type 0
IsOfComparing (refusals.Engine (tool.Write fault)) = ⊤
IsOfComparing (refusals.Dump place fault) = ⊤
IsOfComparing refusals.OutOfMemory = ⊤
IsOfComparing other = ⊥

-- that holds of what the readers of both tell
abbrev pub OverBoth : {R : Type 0} → (R → Option (List ℕ)) → (olds news : List R) → (List (List ℕ) → List (List ℕ) → Type 0) → Type 0
OverBoth left olds news Holds = (old_parts new_parts : List (List ℕ)) → Tell left olds old_parts → Tell left news new_parts
    → Holds old_parts new_parts

-- a front of their difference
abbrev pub IsFrontOfBoth : {R : Type 0} → (R → Option (List ℕ)) → (olds news : List R) → (held holds : Option (List ℕ)) → Type 0
IsFrontOfBoth left olds news held holds =
    OverBoth left olds news (λ old_parts new_parts. WritesFront (IsDifferenceOf old_parts) new_parts held holds)

-- left, health, pulls: what a reader has left to tell, how it is doing, how often it was pulled
-- olds, olds_then; news, news_then: the readers of the older and of the newer dump, before and afterwards
module _ {R : Type 0} (left : R → Option (List ℕ)) (health : R → Health) (pulls : R → ℕ) (olds olds_then news news_then : List R) where
  -- the older parts are refused with the fault and none of the newer ones is touched, or they agree and the newer ones are refused
  abbrev pub RefusesDump : (old_parts new_parts : List (List ℕ)) → (place : ℕ) → ToolFault → Type 0
  RefusesDump old_parts new_parts place fault =
      ((place ≡ 0) × (news_then ≡ news) × IsRefusal left health pulls olds olds_then stored_dump_making (refusals.Engine fault) old_parts)
      ⊎ ((place ≡ 1) × ((heap : HeapValue) × Agree old_parts heap.ids heap.millis heap.facts)
      × IsRefusal left health pulls news news_then stored_dump_making (refusals.Engine fault) new_parts)

  -- what a refusal to compare parts says of them
  abbrev pub SaysOfTwo : Refused → (old_parts new_parts : List (List ℕ)) → Type 0
  SaysOfTwo (refusals.Engine (tool.Write fault)) old_parts new_parts = (text : List ℕ) × IsDifferenceOf old_parts new_parts text
  SaysOfTwo (refusals.Dump place fault) old_parts new_parts = RefusesDump old_parts new_parts place fault
  SaysOfTwo refusals.OutOfMemory old_parts new_parts = ⊤
  SaysOfTwo other old_parts new_parts = ⊥

  -- what a refusal to compare what readers tell says of it, and leaves of the stream that was to be written to
  abbrev pub StopsComparing : {O : Type 0} → (O → Option (List ℕ)) → (old : O) → Refused → (new : Option O) → Type 0
  StopsComparing contents old why new = IsOfComparing why × OverBoth left olds news (SaysOfTwo why)
      × Leaves contents (IsFrontOfBoth left olds news) why old new

-- ---- files

-- the only part is that of that name, as it came of opening it
abbrev pub IsOneOpened : {P W : Type 0} → Answered P W → List ℕ → List P → Type 0
IsOneOpened {P} answered name parts = (part : P) × (parts ≡ part ∷ []) × answered.IsOpened name part

-- the part of that name could not be opened, or there was no memory
abbrev pub IsOfOpeningOne : {P W : Type 0} → Answered P W → List ℕ → (place : ℕ) → Refused → Type 0
IsOfOpeningOne answered name place (refusals.Open other) = (other ≡ place) × answered.CannotOpen name
IsOfOpeningOne answered name place refusals.OutOfMemory = ⊤
IsOfOpeningOne answered name place other = ⊥

-- answered: what came of the names of files;  tells: what a part has left to tell
-- older, newer: the names of the dumps
module _ {P W : Type 0} (answered : Answered P W) (tells : P → Option (List ℕ)) (older newer : List ℕ) where
  -- the dumps of these names were opened, and this holds of what they tell
  pub record OfDumps (Holds : List (List ℕ) → List (List ℕ) → Type 0) : Type 0 where
    pub old : P
    pub new : P
    pub old_opened : answered.IsOpened older old
    pub new_opened : answered.IsOpened newer new
    pub holds : (one other : List ℕ) → tells old ≡ Some one → tells new ≡ Some other → Holds (one ∷ []) (other ∷ [])

  -- the same, of the dumps as they were opened and as they were read, too
  pub record OfReadDumps (Holds : (olds olds_then news news_then : List P) → List (List ℕ) → List (List ℕ) → Type 0) : Type 0 where
    pub olds : List P
    pub olds_then : List P
    pub news : List P
    pub news_then : List P
    pub old_opened : IsOneOpened answered older olds
    pub new_opened : IsOneOpened answered newer news
    pub holds : OverBoth tells olds news (Holds olds olds_then news news_then)

  -- the dump of the older name could not be opened, or that of the newer one
  abbrev pub CannotOpenDump : ℕ → Type 0
  CannotOpenDump place = ((place ≡ 0) × answered.CannotOpen older)
      ⊎ ((place ≡ 1) × ((old : P) × answered.IsOpened older old) × answered.CannotOpen newer)

  -- what a refusal to compare them says
  --   health, pulls: how a part is doing, how often it was pulled
  abbrev pub IsDiffRefusal : (P → Health) → (P → ℕ) → Refused → Type 0
  IsDiffRefusal health pulls (refusals.Engine (tool.Write fault)) = OfDumps (λ olds news. (text : List ℕ) × IsDifferenceOf olds news text)
  IsDiffRefusal health pulls (refusals.Dump place fault) = OfReadDumps
      (λ olds olds_then news news_then. SaysOfTwo tells health pulls olds olds_then news news_then (refusals.Dump place fault))
  IsDiffRefusal health pulls (refusals.Open place) = CannotOpenDump place
  IsDiffRefusal health pulls refusals.OutOfMemory = ⊤
  IsDiffRefusal health pulls other = ⊥

  module _ {O : Type 0} (contents : O → Option (List ℕ)) (before : O) where
    -- their difference was written
    abbrev pub ComparesFiles : (after : O) → Type 0
    ComparesFiles after = OfDumps (λ olds news. WritesAll (IsDifferenceOf olds) news (contents before) (contents after))

    -- what a refusal says, and leaves of the stream
    abbrev pub RefusesDiff : (P → Health) → (P → ℕ) → Refused → (after : Option O) → Type 0
    RefusesDiff health pulls why after = IsDiffRefusal health pulls why
        × Leaves contents (λ held holds. OfDumps (λ olds news. WritesFront (IsDifferenceOf olds) news held holds)) why before after
