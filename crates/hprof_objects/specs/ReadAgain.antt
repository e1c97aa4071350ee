-- A part that is read again, and the objects that come next.
use Rattle.std.specs.Prelude.{◌≡◌, ◌⊎◌, ◌<◌, ◌-◌, ◌^◌, ℕ, min, false, List, ◌++◌, take, Option, Some, Err, slice_get}
use Rattle.hprof_values.specs.declared.ids.IdSize.{IdSize}
use Rattle.hprof_items.specs.FactValue.{FactValue}
use Rattle.hprof_devices.specs.declared.health.Health.{Health}
use Rattle.hprof_devices.specs.declared.health.Health.TheVariants.{Failed}
use Rattle.hprof_stream.specs.declared.limits.Limits.{Limits}
use Rattle.hprof_stream.specs.declared.part_fault.PartFault.{PartFault}
use Rattle.hprof_facts.specs.declared.fact_reader.FactReader.{FactReader}
use Rattle.hprof_facts.specs.FactReader.{HasGivenFrom, IsOver, Origin, answer_of}
use Rattle.hprof_facts.specs.OfBytes.{is_of_bytes}
use Rattle.hprof_facts.specs.Sizes.{StatesUnder}
use Rattle.hprof_parts.specs.Parts.{bytes_at}
use Rattle.hprof_merge.specs.Rows.{ByteRow}
use Rattle.hprof_objects.specs.ObjectRows.{object_rows}
use Rattle.hprof_objects.specs.PartsRead.{PartRead}

-- whole items at the front of the bytes, of which no more may come than the limit, state these facts
abbrev pub StatesFirst : Limits → List ℕ → IdSize → List FactValue → Type 0
StatesFirst limits bytes ids facts = StatesUnder limits.max_item (take limits.max_bytes bytes) facts (Some ids)

-- the part tells its bytes, which are those that were read before: they state the facts that were taken, and then whatever follows
pub record IsSame (limits : Limits) (told : Option (List ℕ)) (part : PartRead) : Type 0 where
  pub tells : told ≡ Some part.bytes
  pub states : StatesFirst limits part.bytes part.ids part.facts

-- the part of that number is the same as when it was read
--   told: the bytes of each part, where they are told
abbrev pub IsSameAt : Limits → List (Option (List ℕ)) → List PartRead → ℕ → Type 0
IsSameAt limits told parts number = (part : PartRead) → slice_get parts number ≡ Some part → IsSame limits (bytes_at told number) part

-- the source failed, or was pulled as often as it may be
abbrev pub CannotRead : {R : Type 0} → (R → Health) → (R → ℕ) → ℕ → R → Type 0
CannotRead health pulls reads is = (health is ≡ Failed) ⊎ (pulls is ≡ min reads (2 ^ 64 - 1))

module _ {R : Type 0} (left : R → Option (List ℕ)) (health : R → Health) (pulls : R → ℕ) where
  -- it is over behind some facts, and answers a fault that the bytes do not decide
  pub record IsOverBefore (origin : Origin) (was : R) (reader : FactReader R) : Type 0 where
    pub given : List FactValue
    pub gave : HasGivenFrom left health pulls origin was given reader
    pub over : IsOver reader
    pub fault : PartFault
    pub answers : answer_of reader ≡ Err fault
    pub undecided : is_of_bytes fault ≡ false

  -- of a part that is read again with so many reads, and whose source tells its bytes, these are the next objects; or reading it has failed
  --   rest: the bytes behind the origin;  given, behind: the facts that were given behind it, and those that come
  pub record HasObjects (reads : ℕ) (reader : FactReader R) (rows : List ByteRow) : Type 0 where
    pub origin : Origin
    pub allowed : origin.reads ≡ reads
    pub fits : origin.limits.max_bytes < 2 ^ 64
    pub was : R
    pub fresh : pulls was ≡ 0
    pub rest : List ℕ
    pub tells : left was ≡ Some rest
    pub ids : IdSize
    pub given : List FactValue
    pub behind : List FactValue
    pub states : StatesFirst origin.limits (origin.front ++ rest) ids ((origin.told ++ given) ++ behind)
    pub more : List ByteRow
    pub are : object_rows ids behind ≡ rows ++ more
    pub stands : HasGivenFrom left health pulls origin was given reader ⊎ IsOverBefore origin was reader
