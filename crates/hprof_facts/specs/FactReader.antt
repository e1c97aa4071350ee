-- A reader of the facts of a part that is pulled: which facts it has given, and how it ends.
use Rattle.std.specs.Prelude.{◌≡◌, ◌⊎◌, ℕ, ◌+◌, ◌≤◌, ◌<◌, Bool, true, false, List, [], ◌∷◌, ◌++◌, length, take, Option, Some, None, Result}
use Rattle.std.specs.Prelude.{Ok, Err}
use Rattle.std.specs.Io.KnownBytes.{Consumes, IsAtEnd}
use Rattle.hprof_values.specs.declared.ids.IdSize.{IdSize}
use Rattle.hprof_items.specs.FactValue.{FactValue}
use Rattle.hprof_devices.specs.declared.health.Health.{Health}
use Rattle.hprof_devices.specs.declared.health.Health.TheVariants.{Well, Failed}
use Rattle.hprof_stream.specs.declared.limits.Limits.{Limits}
use Rattle.hprof_stream.specs.declared.part_fault.PartFault.{PartFault}
use Rattle.hprof_stream.specs.declared.part_fault.PartFault.TheVariants as faults
use Rattle.hprof_stream.specs.declared.part_place.PartPlace.{PartPlace}
use Rattle.hprof_stream.specs.declared.part_reader.PartReader.{PartReader}
use Rattle.hprof_stream.specs.declared.summary.PartSummary.{PartSummary}
use Rattle.hprof_stream.specs.Reader.{Feeds, Finishes, HasRead, IsPull, IsReady, Pulled, ReadsPart, header_of}
use Rattle.hprof_facts.specs.declared.fact_place.FactPlace.{FactPlace}
use Rattle.hprof_facts.specs.declared.fact_reader.FactReader.{FactReader}
use Rattle.hprof_facts.specs.FactPlaces.{IsBehindFacts}
use Rattle.hprof_facts.specs.Listing as listing
use Rattle.hprof_facts.specs.OfBytes.{is_of_bytes}
use Rattle.hprof_facts.specs.Sizes.{StatesUnder}
use Rattle.hprof_facts.specs.Queues.{HasCurrent, Holds, begun_with, given_of, has_refused, spelled_last}

-- the source that it reads from
abbrev pub source_of : {R : Type 0} → FactReader R → R
source_of reader = reader.source

-- this fact was given last
abbrev pub IsCurrent : {R : Type 0} → FactReader R → FactValue → Type 0
IsCurrent reader fact = HasCurrent reader.queue fact

-- the size of the identifiers of the facts that are given
abbrev pub ids_of : {R : Type 0} → FactReader R → Option IdSize
ids_of reader = begun_with reader.queue

-- the bytes of the sub-record that states the fact that was given last
abbrev pub spelled_of : {R : Type 0} → FactReader R → List ℕ
spelled_of reader = spelled_last reader.queue

-- what the part came to, once it is over and was not refused
abbrev pub summary_by : Option PartReader → Result PartSummary PartFault → Option PartSummary
summary_by None (Ok summary) = Some summary
summary_by part outcome = None

abbrev pub summary_of : {R : Type 0} → FactReader R → Option PartSummary
summary_of reader = summary_by reader.part reader.outcome

-- its part was read to its end or refused, and all facts before that were given
abbrev pub IsOver : {R : Type 0} → FactReader R → Type 0
IsOver reader = (reader.part ≡ None) × Holds reader.queue []

-- what it answers then
abbrev pub last_answer : Result PartSummary PartFault → Result Bool PartFault
last_answer (Ok summary) = Ok false
last_answer (Err fault) = Err fault

abbrev pub answer_of : {R : Type 0} → FactReader R → Result Bool PartFault
answer_of reader = last_answer reader.outcome

-- one more than the reads that may come, while there is a part to read
abbrev pub reads_by : Option PartReader → ℕ → ℕ
reads_by None allowed = 0
reads_by (Some part) allowed = allowed + 1

abbrev pub reads_to_come : {R : Type 0} → FactReader R → ℕ
reads_to_come reader = reads_by reader.part reader.reads_left

-- while there is a part to read, the source is well, the queue was begun with the size of the part, and there is room for a piece
abbrev pub CanReadOn : {R : Type 0} → (R → Health) → Option PartReader → R → Option IdSize → ℕ → Type 0
CanReadOn health None source begun room = Unit {0}
CanReadOn health (Some part) source begun room = (health source ≡ Well) × IsReady part begun × (room ≡ 16384)

-- it can be asked for the next fact
abbrev pub CanAdvance : {R : Type 0} → (R → Health) → FactReader R → Type 0
CanAdvance health reader = CanReadOn health reader.part reader.source (begun_with reader.queue) (length reader.piece.items)

-- where a reader began: behind some bytes of a part, which state facts, and with so many reads that it may make
pub record Origin : Type 0 where
  pub limits : Limits
  pub front : List ℕ
  pub told : List FactValue
  pub reads : ℕ

-- before the first byte
abbrev pub start_of : Limits → Origin
start_of limits = record { limits = limits; front = []; told = []; reads = limits.max_reads }

module _ {R : Type 0} (left : R → Option (List ℕ)) (health : R → Health) (pulls : R → ℕ) where
  -- ---- what was read

  -- the items that came whole so far state these facts behind the origin, and there is nothing wrong in them
  --   allowed: the reads that may come still
  pub record IsReading (origin : Origin) (was : R) (part : PartReader) (is : R) (allowed : ℕ) (facts : List FactValue) : Type 0 where
    pub came : List ℕ
    pub turns : ℕ
    pub pulled : Pulled left pulls was came turns is
    pub read : HasRead origin.limits (origin.front ++ came) (origin.told ++ facts) part
    pub spent : turns + allowed ≡ origin.reads

  -- reading came to that result, and these are the facts that were read before
  pub data EndsFrom (origin : Origin) (was is : R) : Result PartSummary PartFault → List FactValue → Type 0 where
    -- nothing more came: the part is whole, or it ends too soon
    comes_to_end : {part : PartReader} {before : R} {allowed : ℕ} {result : Result PartSummary PartFault} {facts : List FactValue}
        → (reading : IsReading origin was part before allowed facts) → 0 < allowed → IsPull left pulls before [] is → IsAtEnd (left is)
        → health is ≡ Well
        → Finishes origin.limits (origin.front ++ reading.came) (origin.told ++ facts) (header_of part) result
        → EndsFrom origin was is result facts
    -- a piece came, and the part was refused with it
    is_refused : {part : PartReader} (next : PartReader) {before : R} {allowed : ℕ} {piece : List ℕ} {fault : PartFault} {facts all : List
        FactValue}
        → (reading : IsReading origin was part before allowed facts) → 0 < allowed → IsPull left pulls before piece is → 0 < length piece
        → health is ≡ Well
        → Feeds listing.begins listing.steps listing.refuses listing.failed origin.limits (origin.front ++ reading.came)
        (origin.told ++ facts) part piece facts (Err fault) next all
        → EndsFrom origin was is (Err fault) all
    -- the source failed
    source_fails : {part : PartReader} {before : R} {allowed : ℕ} {facts : List FactValue}
        → IsReading origin was part before allowed facts → 0 < allowed → IsPull left pulls before [] is → health is ≡ Failed
        → EndsFrom origin was is (Err faults.Read) facts
    -- no more reads may come
    reads_are_spent : {part : PartReader} {facts : List FactValue} → IsReading origin was part is 0 facts → health is ≡ Well
        → EndsFrom origin was is (Err faults.ReadsExceeded) facts

  -- the same from the first byte on: by the definition of `read_part`, with these facts handed on before
  abbrev pub Ends : Limits → R → R → Result PartSummary PartFault → List FactValue → Type 0
  Ends limits was is result facts = (came : List ℕ) × Consumes (left was) (left is) came
      × ReadsPart left health pulls listing.begins listing.steps listing.refuses listing.failed limits was came is [] result facts

  -- a part that is being read states these facts so far; one that was read to its end or refused stated them
  --   refused: whether the queue has refused a fact
  abbrev pub IsReadTo : Origin → R → Option PartReader → R → ℕ → Result PartSummary PartFault → Bool → List FactValue → Type 0
  IsReadTo origin was None is allowed outcome refused facts = EndsFrom origin was is outcome facts
  IsReadTo origin was (Some part) is allowed outcome refused facts = IsReading origin was part is allowed facts × (refused ≡ false)

  -- ---- places

  -- the place is behind the facts that were given, in the bytes before the origin and those that came
  pub record IsPlaced (origin : Origin) (was is : R) (given : List FactValue) (place : FactPlace) : Type 0 where
    pub came : List ℕ
    pub gave : Consumes (left was) (left is) came
    pub behind : IsBehindFacts origin.limits (origin.front ++ came) (origin.told ++ given) place

  -- so many facts behind that place of the part
  abbrev pub IsPlacedBy : Origin → R → R → List FactValue → Option PartPlace → ℕ → Type 0
  IsPlacedBy origin was is given before passed =
      (part : PartPlace) × (before ≡ Some part) × IsPlaced origin was is given (record { part = part; passed = passed })

  -- ---- what was given

  -- where the source tells its bytes, these facts come behind the origin, and the size that was begun is that of the part
  abbrev pub IsSized : Origin → R → Option IdSize → List FactValue → Type 0
  IsSized origin was begun facts = (rest : List ℕ) → left was ≡ Some rest
      → StatesUnder origin.limits.max_item (take origin.limits.max_bytes (origin.front ++ rest)) (origin.told ++ facts) begun

  -- of the part that comes from the source, as it was, it has given these facts behind the origin, from the first on
  pub record HasGivenFrom (origin : Origin) (was : R) (given : List FactValue) (reader : FactReader R) : Type 0 where
    pub queued : List FactValue
    pub holds : Holds reader.queue queued
    pub read : IsReadTo origin was reader.part reader.source reader.reads_left reader.outcome (has_refused reader.queue) (given ++ queued)
    pub placed : IsPlacedBy origin was reader.source given reader.before (given_of reader.queue)
    pub sized : IsSized origin was (begun_with reader.queue) (given ++ queued)

  -- the same from the first fact of the part on
  abbrev pub HasGiven : Limits → R → List FactValue → FactReader R → Type 0
  HasGiven limits was given reader = HasGivenFrom (start_of limits) was given reader

  -- it has given so many facts behind the origin, or it is over before
  pub record HasPassed (origin : Origin) (was : R) (count : ℕ) (reader : FactReader R) : Type 0 where
    pub passed : List FactValue
    pub given : HasGivenFrom origin was passed reader
    pub few : length passed ≤ count
    pub over : length passed < count → IsOver reader

  -- it has given these facts; or it is over, and answers a fault that the bytes do not decide
  abbrev pub HasGivenOrFails : Origin → R → List FactValue → FactReader R → Type 0
  HasGivenOrFails origin was given reader = HasGivenFrom origin was given reader
      ⊎ (IsOver reader × ((fault : PartFault) × (answer_of reader ≡ Err fault) × (is_of_bytes fault ≡ false)))

  -- it goes on to the fact behind those; or reading the part came to its end, and all facts before that were given
  abbrev pub AdvancesFrom : Origin → R → List FactValue → Result Bool PartFault → FactReader R → Type 0
  AdvancesFrom origin was given (Ok true) reader =
      (fact : FactValue) × HasGivenFrom origin was (given ++ fact ∷ []) reader × IsCurrent reader fact
  AdvancesFrom origin was given (Ok false) reader = HasGivenFrom origin was given reader × IsOver reader
      × ((summary : PartSummary) × (summary_of reader ≡ Some summary) × EndsFrom origin was (source_of reader) (Ok summary) given)
  AdvancesFrom origin was given (Err fault) reader = HasGivenFrom origin was given reader × IsOver reader
      × EndsFrom origin was (source_of reader) (Err fault) given

  -- the same from the first byte on
  abbrev pub Advances : Limits → R → List FactValue → Result Bool PartFault → FactReader R → Type 0
  Advances limits was given (Ok true) reader = (fact : FactValue) × HasGiven limits was (given ++ fact ∷ []) reader × IsCurrent reader fact
  Advances limits was given (Ok false) reader = HasGiven limits was given reader
      × ((summary : PartSummary) × (summary_of reader ≡ Some summary) × Ends limits was (source_of reader) (Ok summary) given)
  Advances limits was given (Err fault) reader = HasGiven limits was given reader × Ends limits was (source_of reader) (Err fault) given
