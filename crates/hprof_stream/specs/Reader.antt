-- What a reader of a part has read, and what reading on does.
use Rattle.std.specs.Prelude.{◌≡◌, ◌⊎◌, ℕ, ◌+◌, ◌-◌, ◌^◌, ◌≤◌, ◌<◌, min, max, Bool, true, false, List, ◌++◌, length, take, [], Option, Some}
use Rattle.std.specs.Prelude.{None, Result, Ok, Err, vec_capacity}
use Rattle.std.proofs.Common.{inl, inr}
use Rattle.std.specs.List.{list_any}
use Rattle.std.specs.Io.KnownBytes.{Consumes, IsAtEnd}
use Rattle.hprof_items.specs.declared.header.Header.{Header}
use Rattle.hprof_devices.specs.declared.health.Health.{Health}
use Rattle.hprof_devices.specs.declared.health.Health.TheVariants as healths
use Rattle.hprof_values.specs.declared.ids.IdSize.{IdSize}
use Rattle.hprof_values.specs.declared.reason.Reason.TheVariants.{Truncated}
use Rattle.hprof_values.specs.declared.parse_stop.ParseStop.TheVariants.{Short}
use Rattle.hprof_items.specs.FactValue.{FactValue}
use Rattle.hprof_stream.specs.declared.limits.Limits.{Limits}
use Rattle.hprof_stream.specs.declared.part_fault.PartFault.{PartFault}
use Rattle.hprof_stream.specs.declared.part_fault.PartFault.TheVariants as faults
use Rattle.hprof_stream.specs.declared.sink.SinkFault.{SinkFault}
use Rattle.hprof_stream.specs.declared.part_reader.PartReader.{PartReader}
use Rattle.hprof_stream.specs.declared.summary.PartSummary.{PartSummary}
use Rattle.hprof_stream.specs.Part.{Stated, all_bytes, all_facts, is_end, IsPart, IsSummary}
use Rattle.hprof_stream.specs.Item.{Place, Start, header_before, IsItem, AreItems, records_begun, held_of, item_at}
use Rattle.hprof_stream.specs.Fault.{Splits, HasNoFault, IsFirstFault, HasNoSettledFault, StatesSoFar, is_settled}
use Rattle.hprof_stream.specs.Progress.{place_of}
use Rattle.hprof_stream.specs.Rest.{IsRest}
use Rattle.hprof_stream.specs.Run.{Run, became}
use Rattle.hprof_stream.specs.Walking.{IsBegun, Refuses}

-- ---- the words for a reader

-- the header that it read
abbrev pub header_of : PartReader → Option Header
header_of reader = reader.progress.header

-- whether it answered a fault
abbrev pub has_failed : PartReader → Bool
has_failed reader = reader.failed

-- the sink was begun with the size of the part, while no fault came
abbrev pub IsReady : PartReader → Option IdSize → Type 0
IsReady reader begun = has_failed reader ≡ false → IsBegun (header_of reader) begun

-- it has room for no bytes
abbrev pub HasNoRoom : PartReader → Type 0
HasNoRoom reader = vec_capacity reader.rest.held ≡ 0

-- this is a reader that was fed these bytes with no fault; the whole items among them state these facts
--   unfinished: the bytes behind them
pub record HasRead (limits : Limits) (bytes : List ℕ) (facts : List FactValue) (reader : PartReader) : Type 0 where
  pub has_limits : reader.progress.limits ≡ limits
  pub sound : has_failed reader ≡ false
  pub within : length bytes ≤ limits.max_bytes
  pub items : List Stated
  pub unfinished : List ℕ
  pub splits : Splits limits.max_item bytes items (place_of reader.progress) unfinished
  pub keeps : IsRest limits.max_item (place_of reader.progress) unfinished reader.rest
  pub has_facts : all_facts items ≡ facts
  pub offset : reader.progress.at ≡ length (all_bytes items)
  pub record_count : reader.progress.records ≡ records_begun splits.each
  pub fact_count : reader.progress.facts ≡ length facts
  pub has_end : reader.progress.ended ≡ list_any is_end items

-- so many bytes are held of an item that is not whole yet: all that are there, but of a record that is passed over none
pub record IsUnfinished (longest : ℕ) (bytes : List ℕ) (count : ℕ) : Type 0 where
  pub items : List Stated
  pub place : Place
  pub rest : List ℕ
  pub splits : Splits longest bytes items place rest
  pub short : item_at longest place rest ≡ Err Short
  pub has_count : length (held_of longest place rest) ≡ count

-- some bytes are held of an item that is not whole yet
abbrev pub IsWithinItem : ℕ → List ℕ → Type 0
IsWithinItem longest bytes = (count : ℕ) × IsUnfinished longest bytes count × (0 < count)

-- the bytes begin with whole and right items, of which the last is a header or states a fact
--   before, next: the places before the last and behind it;  told: the header of all
pub record BeginsWhole (longest : ℕ) (bytes : List ℕ) (told : Option Header) : Type 0 where
  pub items : List Stated
  pub before : Place
  pub last : Stated
  pub next : Place
  pub back : List ℕ
  pub each : AreItems longest Start items before
  pub item : IsItem longest before last next
  pub has_told : header_before next ≡ told
  pub given : last.facts ≡ [] → header_before before ≡ None
  pub parts : bytes ≡ all_bytes items ++ (last.bytes ++ back)

-- where the last of them ends
abbrev pub whole_len : {longest : ℕ} {bytes : List ℕ} {told : Option Header} → BeginsWhole longest bytes told → ℕ
whole_len whole = length (all_bytes whole.items) + length whole.last.bytes

-- nothing is wrong in the bytes, which are no more than may come
abbrev pub IsAcceptedSoFar : Limits → List ℕ → Type 0
IsAcceptedSoFar limits bytes = (length bytes ≤ limits.max_bytes) × HasNoSettledFault limits.max_item bytes

-- the fault of the bytes that no further one changes: they are more than may come, and nothing is wrong in those that are
-- taken; or it is the first of these
abbrev pub IsSettledFault : Limits → List ℕ → PartFault → Type 0
IsSettledFault limits bytes faults.BytesExceeded =
    (limits.max_bytes < length bytes) × HasNoSettledFault limits.max_item (take limits.max_bytes bytes)
IsSettledFault limits bytes fault = IsFirstFault limits.max_item (take limits.max_bytes bytes) fault × (is_settled fault ≡ true)

-- an item could not be held: that in which a front and the piece behind it end, when nothing is wrong in them; or the
-- one in which the front ended
abbrev pub IsUnheld : Limits → List ℕ → List ℕ → Type 0
IsUnheld limits front piece =
    (IsAcceptedSoFar limits (front ++ piece) × IsWithinItem limits.max_item (front ++ piece))
    ⊎ ((length front < limits.max_bytes) × IsWithinItem limits.max_item front)

-- the longer of a header and the longest item with its head
abbrev pub longest_held : ℕ → ℕ
longest_held longest = max 31 (9 + longest)

-- ---- reading on

module _ {S : Type 0} (begins : S → Header → S → Type 0) (steps : S → FactValue → S → Type 0) where
  -- the sink has run over the header and the facts of the whole items among the bytes, of which these facts were
  -- handed to it before
  pub record RanOver (longest : ℕ) (bytes : List ℕ) (facts : List FactValue) (from to : Option Header) (old new : S) : Type 0 where
    pub handed : List FactValue
    pub states : StatesSoFar longest bytes to (facts ++ handed)
    pub ran : Run begins steps old (became from to) handed new

  -- the same over the items at the front, up to the last of them, which the sink was then given
  pub record RanUpTo {longest : ℕ} {bytes : List ℕ} {to : Option Header} (whole : BeginsWhole longest bytes to) (facts : List FactValue)
      (from : Option Header) (old new : S) : Type 0 where
    pub stays : (before : Header) → from ≡ Some before → header_before whole.before ≡ Some before
    pub handed : List FactValue
    pub has_facts : all_facts whole.items ≡ facts ++ handed
    pub ran : Run begins steps old (became from (header_before whole.before)) handed new

  -- what the sink has run over where an item could not be held: all that is whole; or nothing of the piece
  abbrev pub RanUnheld : (limits : Limits) (front piece : List ℕ) → IsUnheld limits front piece → List FactValue → Option Header → S
      → Option Header → S → Type 0
  RanUnheld limits front piece (inl all) facts before old after new =
      RanOver limits.max_item (front ++ piece) facts before after old new
  RanUnheld limits front piece (inr held) facts before old after new = (after ≡ before) × (old ≡ new)

  -- a growth was refused when a piece came behind bytes that state facts
  abbrev pub LacksMemory : Limits → List ℕ → List FactValue → Option Header → List ℕ → S → Option Header → S → Type 0
  LacksMemory limits bytes facts before piece old after new =
      (unheld : IsUnheld limits bytes piece) × RanUnheld limits bytes piece unheld facts before old after new

module _ {S : Type 0} (begins : S → Header → S → Type 0) (steps : S → FactValue → S → Type 0) (refuses : S → List FactValue → SinkFault
    → S → Type 0) (failed : S → Bool) where
  -- the sink has run over the items up to the last of these, and refused it
  pub record RefusesLast {longest : ℕ} {bytes : List ℕ} {to : Option Header} (whole : BeginsWhole longest bytes to)
      (facts : List FactValue) (from : Option Header) (old : S) (fault : SinkFault) (new : S) : Type 0 where
    pub mid : S
    pub ran : RanUpTo begins steps whole facts from old mid
    pub refused : Refuses refuses failed mid whole.last.facts fault new

  -- with which fault a reader that was fed all these bytes, the last of them just now, refuses them; want of memory is
  -- told apart
  abbrev pub IsFeedFault : Limits → List ℕ → List FactValue → Option Header → Option Header → S → PartFault → S → Type 0
  IsFeedFault limits bytes facts before after old (faults.Sink fault) new =
      (whole : BeginsWhole limits.max_item (take limits.max_bytes bytes) after) × RefusesLast whole facts before old fault new
  IsFeedFault limits bytes facts before after old fault new =
      IsSettledFault limits bytes fault × RanOver begins steps limits.max_item (take limits.max_bytes bytes) facts before after old new

  -- what feeding a piece does, to a reader that was fed bytes which state facts
  abbrev pub Feeds : Limits → List ℕ → List FactValue → PartReader → List ℕ → S → Result (Unit {0}) PartFault → PartReader → S → Type 0
  Feeds limits bytes facts from piece old (Ok _) to new =
      (handed : List FactValue) × HasRead limits (bytes ++ piece) (facts ++ handed) to
      × Run begins steps old (became (header_of from) (header_of to)) handed new
  Feeds limits bytes facts from piece old (Err faults.OutOfMemory) to new =
      (0 < length piece) × LacksMemory begins steps limits bytes facts (header_of from) piece old (header_of to) new
  Feeds limits bytes facts from piece old (Err fault) to new =
      IsFeedFault limits (bytes ++ piece) facts (header_of from) (header_of to) old fault new

-- ---- the end of a part

-- what the end of the input makes of bytes that were fed with no fault and state these facts
abbrev pub Finishes : Limits → List ℕ → List FactValue → Option Header → Result PartSummary PartFault → Type 0
Finishes limits bytes facts header (Ok summary) =
    HasNoFault limits.max_item bytes × IsSummary bytes summary × IsPart bytes summary.header.ids summary.header.millis facts
    × (header ≡ Some summary.header)
Finishes limits bytes facts header (Err fault) = IsFirstFault limits.max_item bytes fault × (is_settled fault ≡ false)

-- ---- a part from a source

module _ {R : Type 0} (left : R → Option (List ℕ)) (pulls : R → ℕ) where
  -- one pull of a source gave these bytes, which are no more than a read asks for
  pub record IsPull (from : R) (piece : List ℕ) (to : R) : Type 0 where
    pub gave : Consumes (left from) (left to) piece
    pub one : pulls to ≡ min (pulls from + 1) (2 ^ 64 - 1)
    pub few : length piece ≤ 65536

  -- so many pulls, one after the other, gave these bytes, and each of them one or more
  pub data Pulled (was : R) : List ℕ → ℕ → R → Type 0 where
    none : Pulled was [] 0 was
    once_more : {came piece : List ℕ} {count : ℕ} {mid is : R} → Pulled was came count mid → IsPull mid piece is → 0 < length piece
        → Pulled was (came ++ piece) (count + 1) is

  -- these bytes came, and then one pull more gave nothing; there were no more pulls than may be made
  pub record PulledOut (limits : Limits) (was : R) (came : List ℕ) (is : R) : Type 0 where
    pub before : R
    pub count : ℕ
    pub pulled : Pulled was came count before
    pub allowed : count < limits.max_reads
    pub last : IsPull before [] is

  -- these bytes came from a source: a front, in which nothing is wrong, and with its last pull a piece; there were no
  -- more pulls than may be made
  --   was, is: the source before the first pull and behind the last;  before: before the last
  pub record CameLast (limits : Limits) (was : R) (came : List ℕ) (is : R) : Type 0 where
    pub before : R
    pub front : List ℕ
    pub piece : List ℕ
    pub count : ℕ
    pub parts : came ≡ front ++ piece
    pub pulled : Pulled was front count before
    pub allowed : count < limits.max_reads
    pub last : IsPull before piece is
    pub some : 0 < length piece
    pub accepted : IsAcceptedSoFar limits front

  -- an item ends in what the last pull gave
  pub record EndsAtLast (limits : Limits) (was : R) (came : List ℕ) (is : R) : Type 0 where
    pub last : CameLast limits was came is
    pub told : Option Header
    pub whole : BeginsWhole limits.max_item (take limits.max_bytes came) told
    pub behind : length last.front < whole_len whole

module _ {R : Type 0} (left : R → Option (List ℕ)) (health : R → Health) (pulls : R → ℕ) where
  -- with which fault reading a part is refused of which these bytes came, by the bytes and by how the source was pulled; where
  -- memory was wanted, nothing was read, or an item could not be held when the last piece came
  --   was, is: the source, before and afterwards
  abbrev pub IsReadingFault : Limits → R → List ℕ → R → PartFault → Type 0
  IsReadingFault limits was came is faults.Read =
      PulledOut left pulls limits was came is × (health is ≡ healths.Failed) × IsAcceptedSoFar limits came
  IsReadingFault limits was came is faults.ReadsExceeded =
      Pulled left pulls was came limits.max_reads is × (health is ≡ healths.Well) × IsAcceptedSoFar limits came
  IsReadingFault limits was came is (faults.Malformed at Truncated) =
      PulledOut left pulls limits was came is × IsAtEnd (left is) × (health is ≡ healths.Well) × (length came ≤ limits.max_bytes)
      × IsFirstFault limits.max_item came (faults.Malformed at Truncated)
  IsReadingFault limits was came is faults.OutOfMemory =
      (health is ≡ healths.Well) × (((came ≡ []) × (was ≡ is))
      ⊎ ((last : CameLast left pulls limits was came is) × IsUnheld limits last.front last.piece))
  IsReadingFault limits was came is (faults.Sink fault) = (health is ≡ healths.Well) × EndsAtLast left pulls limits was came is
  IsReadingFault limits was came is faults.Failed = ⊥
  IsReadingFault limits was came is fault =
      CameLast left pulls limits was came is × (health is ≡ healths.Well) × IsSettledFault limits came fault

module _ {S : Type 0} (begins : S → Header → S → Type 0) (steps : S → FactValue → S → Type 0) where
  -- the sink ran over the front, and then an item could not be held
  pub record LacksAtLast (limits : Limits) (front piece : List ℕ) (unheld : IsUnheld limits front piece) (old new : S) : Type 0 where
    pub told : Option Header
    pub header : Option Header
    pub mid : S
    pub over : RanOver begins steps limits.max_item front [] None told old mid
    pub lacks : RanUnheld begins steps limits front piece unheld over.handed told mid header new

module _ {R : Type 0} (left : R → Option (List ℕ)) (health : R → Health) (pulls : R → ℕ)
    {S : Type 0} (begins : S → Header → S → Type 0) (steps : S → FactValue → S → Type 0) (refuses : S → List FactValue → SinkFault
    → S → Type 0) (failed : S → Bool) where
  -- what the sink has run over where reading is refused so, and which item it refused
  abbrev pub RanBefore : (limits : Limits) (was : R) (came : List ℕ) (is : R) → S → (fault : PartFault)
      → IsReadingFault left health pulls limits was came is fault → S → Type 0
  RanBefore limits was came is old faults.OutOfMemory (well, inl nothing) new = old ≡ new
  RanBefore limits was came is old faults.OutOfMemory (well, inr (last, unheld)) new =
      LacksAtLast begins steps limits last.front last.piece unheld old new
  RanBefore limits was came is old (faults.Sink fault) (well, item) new =
      RefusesLast begins steps refuses failed item.whole [] None old fault new
  RanBefore limits was came is old fault why new =
      (header : Option Header) × RanOver begins steps limits.max_item (take limits.max_bytes came) [] None header old new

  -- what reading a part to its end comes to, where these bytes came from a source
  --   was, is: the source, before and afterwards
  abbrev pub ReadsPart : Limits → R → List ℕ → R → S → Result PartSummary PartFault → S → Type 0
  ReadsPart limits was came is old (Ok summary) new =
      PulledOut left pulls limits was came is × IsAtEnd (left is) × (health is ≡ healths.Well) × (length came ≤ limits.max_bytes)
      × HasNoFault limits.max_item came × IsSummary came summary
      × ((facts : List FactValue) × IsPart came summary.header.ids summary.header.millis facts
      × Run begins steps old (Some summary.header) facts new)
  ReadsPart limits was came is old (Err fault) new =
      (why : IsReadingFault left health pulls limits was came is fault) × RanBefore limits was came is old fault why new
