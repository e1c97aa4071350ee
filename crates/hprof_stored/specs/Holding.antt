-- What a sink holds of the parts that it was given, and of the one that is being read.
use Rattle.std.specs.Prelude.{◌≡◌, ◌+◌, ℕ, true, false, List, [], ◌∷◌, ◌++◌, length, map, Option, Some, None, IsSome}
use Rattle.hprof_items.specs.declared.header.Header.{Header}
use Rattle.hprof_items.specs.FactValue.{FactValue}
use Rattle.hprof_devices.specs.declared.health.Health.{Health}
use Rattle.hprof_stream.specs.declared.limits.Limits.{Limits}
use Rattle.hprof_stream.specs.Run.{Run}
use Rattle.hprof_heap.specs.Gathering.{Begins, Gathered, Gathers, Given, Takes, nothing_gathered}
use Rattle.hprof_values.specs.declared.ids.IdSize.{IdSize}
use Rattle.hprof_objects.specs.Log.{HasLogged, HoldsParts, IsPlaceNow}
use Rattle.hprof_objects.specs.PartsRead.{PartRead, with_bytes}
use Rattle.hprof_objects.specs.Whole.{no_objects, without_objects}
use Rattle.hprof_stored.specs.Parts.{PartStored, all_read, given_of}
use Rattle.hprof_stored.specs.Storing.{Storing}

-- what came before a part: the bytes of the scratch at first, where they are told; what the parts gave whose headers came; and all parts,
-- as a log of objects sees them
pub record Earlier : Type 0 where
  pub scratch : Option (List ℕ)
  pub given : List Given
  pub reads : List PartRead

abbrev pub nothing_before : Option (List ℕ) → Earlier
nothing_before scratch = record { scratch = scratch; given = []; reads = [] }

-- parts that were read to their ends
abbrev pub parts_before : Option (List ℕ) → List PartStored → Earlier
parts_before scratch parts = record { scratch = scratch; given = given_of parts; reads = all_read parts }

-- one part more was read, whose header came
abbrev pub one_more : Earlier → Given → List ℕ → Earlier
one_more earlier given bytes = record {
  scratch = earlier.scratch;
  given = earlier.given ++ given ∷ [];
  reads = earlier.reads ++ record { ids = given.header.ids; bytes = bytes; facts = given.facts } ∷ [];
}

-- what they gave beside their objects
abbrev pub others_before : Earlier → List Given
others_before earlier = map without_objects earlier.given

-- a part has come to its end of which no header came
pub record EndsBare {S : Type 0} (old new : Storing S) : Type 0 where
  pub gathers : new.gathered ≡ old.gathered
  pub log : new.log ≡ old.log
  pub part : new.part ≡ old.part + 1
  pub place : new.place ≡ None
  pub within : new.within ≡ false
  pub sound : new.failed ≡ old.failed

module _ {S : Type 0} (written : S → Option (List ℕ)) (health : S → Health) where
  -- the part that was read has come to its end, and more bytes came of it
  pub record EndsPart (old new : Storing S) : Type 0 where
    pub gathers : new.gathered ≡ old.gathered
    pub logs : (limits : Limits) (parts : List PartRead) (part : PartRead) (more : List ℕ)
        → HasLogged written health limits parts part old.log
        → HoldsParts written health limits (parts ++ with_bytes part more ∷ []) new.log
    pub part : new.part ≡ old.part + 1
    pub place : new.place ≡ None
    pub within : new.within ≡ false
    pub sound : new.failed ≡ old.failed

module _ {S : Type 0} (written : S → Option (List ℕ)) (health : S → Health) (limits : Limits) (earlier : Earlier) where
  -- it was given the facts of these parts but objects, and keeps enough of the objects, if the scratch tells its bytes
  pub record HoldsAll (it : Storing S) : Type 0 where
    pub gathers : Gathers nothing_gathered (others_before earlier) it.gathered
    pub logs : IsSome earlier.scratch → HoldsParts written health limits earlier.reads it.log
    pub number : it.part ≡ length earlier.reads
    pub none : it.place ≡ None
    pub without : it.within ≡ false
    pub sound : it.failed ≡ false

  -- these bytes came of a part more, and no header yet
  pub record HoldsNoHeader (bytes : List ℕ) (facts : List FactValue) (it : Storing S) : Type 0 where
    pub gathers : Gathers nothing_gathered (others_before earlier) it.gathered
    pub logs : IsSome earlier.scratch → HoldsParts written health limits earlier.reads it.log
    pub number : it.part ≡ length earlier.reads
    pub place : (ids : IdSize) → IsPlaceNow limits (record { ids = ids; bytes = bytes; facts = facts }) it.place
    pub without : it.within ≡ false
    pub sound : it.failed ≡ false

  -- it was given the same of a part more, the header and some facts of which came
  pub record HoldsHeader (header : Header) (bytes : List ℕ) (facts : List FactValue) (it : Storing S) : Type 0 where
    pub mid : Gathered
    pub gathers : Gathers nothing_gathered (others_before earlier) mid
    pub ran : Run Begins Takes mid (Some header) (no_objects facts) it.gathered
    pub begun : it.gathered.begun ≡ Some header.ids
    pub logs : IsSome earlier.scratch
        → HasLogged written health limits earlier.reads (record { ids = header.ids; bytes = bytes; facts = facts }) it.log
    pub number : it.part ≡ length earlier.reads
    pub within : it.within ≡ true
    pub sound : it.failed ≡ false

  abbrev pub HoldsStored : Option Header → List ℕ → List FactValue → Storing S → Type 0
  HoldsStored None bytes facts it = HoldsNoHeader bytes facts it
  HoldsStored (Some header) bytes facts it = HoldsHeader header bytes facts it
