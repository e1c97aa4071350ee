-- How a reader goes over bytes: what its functions that are not public do.
use Rattle.std.specs.Prelude.{◌≡◌, ◌||◌, ℕ, ◌+◌, ◌≤◌, ◌<◌, ◌⊎◌, Bool, List, ◌++◌, length, drop, [], Option, Some, None, Result, Ok, Err}
use Rattle.std.specs.Prelude.{true, ⊤}
use Rattle.std.specs.List.{list_any}
use Rattle.std.specs.Borrow.{Bor}
use Rattle.hprof_values.specs.declared.ids.IdSize.{IdSize}
use Rattle.hprof_items.specs.declared.header.Header.{Header}
use Rattle.hprof_values.specs.declared.parse_stop.ParseStop.TheVariants.{Short, TooLong, Fault}
use Rattle.hprof_items.specs.FactValue.{FactValue, value_of}
use Rattle.hprof_stream.specs.ItemValue.{ItemValue}
use Rattle.hprof_stream.specs.ItemValue as items
use Rattle.hprof_stream.specs.declared.part_fault.PartFault.{PartFault}
use Rattle.hprof_stream.specs.declared.part_fault.PartFault.TheVariants as faults
use Rattle.hprof_stream.specs.declared.sink.SinkFault.{SinkFault}
use Rattle.hprof_stream.specs.declared.progress.Progress.{Progress}
use Rattle.hprof_stream.specs.Part.{Stated, all_bytes, all_facts, is_end}
use Rattle.hprof_stream.specs.declared.rest.Rest.{Rest}
use Rattle.hprof_stream.specs.Item.{Place, Found, IsItem, AreItems, records_begun, header_before, held_of, item_at}
use Rattle.hprof_stream.specs.Progress.{place_of, IsOutside}
use Rattle.hprof_stream.specs.Rest.{IsRest}
use Rattle.hprof_stream.specs.Run.{Run, became, FitsBegun, ListsHaveBegun, SpellsBegun}

module _ {S : Type 0} (begins : S → Header → S → Type 0) (steps : S → FactValue → S → Type 0) where
  -- what handing an item to a sink does: a header begins a part, a fact is a step, and others do nothing
  abbrev pub Gives : S → ItemValue → S → Type 0
  Gives old (items.Header header) new = begins old header new
  Gives old (items.Fact fact) new = steps old (value_of fact) new
  Gives old (items.Sub fact) new = steps old (value_of fact) new
  Gives old item new = old ≡ new

  -- from one progress to another, over whole items at the front of the bytes, which are handed to a sink
  pub record Walks (longest : ℕ) (from : Progress) (bytes : List ℕ) (old : S) (to : Progress) (rest : List ℕ) (new : S) : Type 0 where
    pub items : List Stated
    pub each : AreItems longest (place_of from) items (place_of to)
    pub parts : bytes ≡ all_bytes items ++ rest
    pub same_limits : to.limits ≡ from.limits
    pub offset : to.at ≡ from.at + length (all_bytes items)
    pub record_count : to.records ≡ from.records + records_begun each
    pub fact_count : to.facts ≡ from.facts + length (all_facts items)
    pub has_end : to.ended ≡ (from.ended || list_any is_end items)
    pub ran : Run begins steps old (became from.header to.header) (all_facts items) new

-- a call on the sink with an item that states these facts answered the fault, and the sink has failed
module _ {S : Type 0} (refuses : S → List FactValue → SinkFault → S → Type 0) (failed : S → Bool) where
  abbrev pub Refuses : S → List FactValue → SinkFault → S → Type 0
  Refuses old given fault new = refuses old given fault new × (failed new ≡ true)

  -- why no step was taken at the front of the bytes: the item is refused, or it is whole and the sink refuses it
  --   told: the header that was read by then
  abbrev pub Stops : Progress → List ℕ → S → PartFault → Option Header → S → Type 0
  Stops progress bytes old (faults.Malformed at reason) told new =
      (item_at progress.limits.max_item (place_of progress) bytes ≡ Err (Fault reason)) × (at ≡ progress.at) × (told ≡ progress.header)
      × (old ≡ new)
  Stops progress bytes old (faults.ItemTooLong at) told new =
      (item_at progress.limits.max_item (place_of progress) bytes ≡ Err TooLong) × (at ≡ progress.at) × (told ≡ progress.header)
      × (old ≡ new)
  Stops progress bytes old (faults.Sink fault) told new =
      (one : Stated) × (next : Place) × (back : List ℕ) × IsItem progress.limits.max_item (place_of progress) one next
      × (header_before next ≡ told)
      × (one.facts ≡ [] → progress.header ≡ None) × (bytes ≡ one.bytes ++ back) × Refuses old one.facts fault new
  Stops progress bytes old faults.OutOfMemory told new = ⊥
  Stops progress bytes old faults.Failed told new = ⊥
  Stops progress bytes old faults.Read told new = ⊥
  Stops progress bytes old faults.ReadsExceeded told new = ⊥
  Stops progress bytes old faults.BytesExceeded told new = ⊥

-- whether and how one item at the front of the bytes was stepped over: by so many bytes, not yet, or never
module _ {S : Type 0} (begins : S → Header → S → Type 0) (steps : S → FactValue → S → Type 0) (refuses : S → List FactValue → SinkFault
    → S → Type 0) (failed : S → Bool) where
  abbrev pub StepsOver : Progress → List ℕ → S → Result (Option ℕ) PartFault → Progress → S → Type 0
  StepsOver from bytes old (Ok None) to new =
      (item_at from.limits.max_item (place_of from) bytes ≡ Err Short) × (from ≡ to) × (old ≡ new)
  StepsOver from bytes old (Ok (Some n)) to new =
      Walks begins steps from.limits.max_item from bytes old to (drop n bytes) new × (0 < n) × (n ≤ length bytes)
      × ((found : Found) × (item_at from.limits.max_item (place_of from) bytes ≡ Ok (found, n)))
  StepsOver from bytes old (Err fault) to new = Stops refuses failed from bytes old fault to.header new
      × (to ≡ record from { header = to.header })

  -- whole items were walked over, and of the next one these bytes were shown, and it was refused
  pub record Halts (from : Progress) (bytes : List ℕ) (old : S) (fault : PartFault) (to : Progress) (new : S) : Type 0 where
    pub shown : List ℕ
    pub rest : List ℕ
    pub mid : S
    pub at : Progress
    pub walked : Walks begins steps from.limits.max_item from bytes old at (shown ++ rest) mid
    pub stops : Stops refuses failed at shown mid fault to.header new
    pub stands : to ≡ record at { header = to.header }

  -- whole items were walked over up to a rest that needs more bytes, or up to one that is refused
  abbrev pub WalksAll : Progress → List ℕ → S → Result (List ℕ) PartFault → Progress → S → Type 0
  WalksAll from bytes old (Ok rest) to new =
      Walks begins steps from.limits.max_item from bytes old to rest new × (item_at to.limits.max_item (place_of to) rest ≡ Err Short)
  WalksAll from bytes old (Err fault) to new = Halts from bytes old fault to new

  -- whole items were walked over up to where no heap dump has room left, or up to a rest that needs more bytes, or up to one
  -- that is refused
  abbrev pub WalksSubs : Progress → List ℕ → S → Result (List ℕ) PartFault → Progress → S → Type 0
  WalksSubs from bytes old (Ok rest) to new =
      Walks begins steps from.limits.max_item from bytes old to rest new
      × (IsOutside to ⊎ (item_at to.limits.max_item (place_of to) rest ≡ Err Short))
  WalksSubs from bytes old (Err fault) to new = Halts from bytes old fault to new

  -- bytes came behind those that were there of an item: it is whole now, it was handed on, and behind it these are left;
  -- or it needs more still, and these are not yet added to it
  abbrev pub GoesOn : Progress → (front bytes : List ℕ) → S → Progress → (left : List ℕ) → Rest → S → Type 0
  GoesOn from front bytes old to left rest new =
      (Walks begins steps from.limits.max_item from (front ++ bytes) old to left new × IsRest from.limits.max_item (place_of to) [] rest)
      ⊎ ((to ≡ from) × (old ≡ new) × ((still : List ℕ) × (front ++ bytes ≡ still ++ left)
      × IsRest from.limits.max_item (place_of from) still rest))

  -- memory was wanted for an item of which bytes are held, when more came, before anything was handed on
  pub record WantsMemory (from : Progress) (front bytes : List ℕ) (old : S) (to : Progress) (new : S) : Type 0 where
    pub stands : to ≡ from
    pub same : old ≡ new
    pub holds : 0 < length (held_of from.limits.max_item (place_of from) front)
    pub some : 0 < length bytes

  -- what stopped it: memory was wanted, or an item was refused
  abbrev pub IsHalted : Progress → (front bytes : List ℕ) → S → PartFault → Progress → S → Type 0
  IsHalted from front bytes old faults.OutOfMemory to new = WantsMemory from front bytes old to new
  IsHalted from front bytes old fault to new = Halts from (front ++ bytes) old fault to new

  -- going on with the item that is held: as above, or stopped
  abbrev pub FinishesHeld : Progress → (front bytes : List ℕ) → S → Result (List ℕ) PartFault → Progress → Rest → S → Type 0
  FinishesHeld from front bytes old (Ok left) to rest new = GoesOn from front bytes old to left rest new
  FinishesHeld from front bytes old (Err fault) to rest new = IsHalted from front bytes old fault to new

  -- whole items were walked over up to one that needs more bytes: of these some are kept, or the others are left; or it was
  -- stopped
  abbrev pub ReadsOn : Progress → (front bytes : List ℕ) → S → Result (List ℕ) PartFault → Progress → Rest → S → Type 0
  ReadsOn from front bytes old (Ok left) to rest new =
      (still : List ℕ) × Walks begins steps from.limits.max_item from (front ++ bytes) old to (still ++ left) new
      × IsRest from.limits.max_item (place_of to) still rest
      × (item_at from.limits.max_item (place_of to) (still ++ left) ≡ Err Short) × ((still ≡ []) ⊎ (left ≡ []))
  ReadsOn from front bytes old (Err fault) to rest new = IsHalted from front bytes old fault to new

-- the bytes behind the reference
abbrev pub seen : Result (Bor (List ℕ)) PartFault → Result (List ℕ) PartFault
seen (Ok rest) = Ok rest.now
seen (Err fault) = Err fault

-- the sink was begun with the header's size
abbrev pub IsBegun : Option Header → Option IdSize → Type 0
IsBegun None begun = ⊤
IsBegun (Some header) begun = begun ≡ Some header.ids

-- the fact of a record that the sink is to be given fits the size that was begun last, and so do its lists, and no sub-record
-- states it
abbrev pub GivesFit : Option IdSize → ItemValue → Type 0
GivesFit begun (items.Fact fact) = FitsBegun begun (value_of fact) × ListsHaveBegun begun fact × SpellsBegun begun (value_of fact) []
GivesFit begun item = ⊤

-- the header that was read once this item was
abbrev pub told_by : Option Header → ItemValue → Option Header
told_by before (items.Header header) = Some header
told_by before item = before

-- it is a header or a fact
abbrev pub GivesSome : ItemValue → Type 0
GivesSome (items.Header header) = ⊤
GivesSome (items.Fact fact) = ⊤
GivesSome (items.Sub fact) = ⊤
GivesSome item = ⊥
