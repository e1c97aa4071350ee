-- What a sink of objects takes that watches parts as they are read for the first time.
use Rattle.std.specs.Prelude.{◌≡◌, ◌⊎◌, ◌<◌, ℕ, List, [], ◌∷◌, ◌++◌, Option, Some, None, ⊤}
use Rattle.hprof_values.specs.declared.ids.IdSize.{IdSize}
use Rattle.hprof_items.specs.FactValue.{FactValue}
use Rattle.hprof_heap.specs.Gathering.{Given}
use Rattle.hprof_merge.specs.Rows.{IsAscending}
use Rattle.hprof_objects.specs.Whole.{rows_given}
use Rattle.hprof_passes.specs.Passing.{RefusesObject, TakesObjects, objects_among}
use Rattle.hprof_stored.specs.Parts.{PartStored}

-- the identifier is above the last one, if there was one
abbrev pub IsAbove : ℕ → Option ℕ → Type 0
IsAbove id None = ⊤
IsAbove id (Some last) = last < id

module _ {T : Type 0} (takes : T → IdSize → FactValue → T → Type 0) where
  -- it took the objects of a part, in the order of the part, in which their identifiers ascend
  pub record WatchesPart (part : Given) (old new : T) : Type 0 where
    pub took : TakesObjects takes part.header.ids old (objects_among part.facts) new
    pub ascend : IsAscending (rows_given part)

  -- it took those of one part after the other
  abbrev pub WatchesParts : T → List PartStored → T → Type 0
  WatchesParts old [] new = old ≡ new
  WatchesParts old (part ∷ parts) new = (mid : T) × WatchesPart part.given old mid × WatchesParts mid parts new

  -- if it is still there, it took those of all parts; it is not there if it was not there at first
  abbrev pub Watched : (start : Option T) → List PartStored → (now : Option T) → Type 0
  Watched None parts None = ⊤
  Watched (Some start) parts None = ⊤
  Watched None parts (Some now) = ⊥
  Watched (Some start) parts (Some now) = WatchesParts start parts now

module _ {T E : Type 0} (takes : T → IdSize → FactValue → T → Type 0) (refuses : T → IdSize → FactValue → E → T → Type 0) where
  -- it refused an object of a part, after it took those before it and those of the parts before
  pub record RefusesIn (start : T) (before : List PartStored) (part : Given) : Type 0 where
    pub mid : T
    pub watches : WatchesParts takes start before mid
    pub fault : E
    pub now : T
    pub refused : RefusesObject takes refuses part.header.ids (objects_among part.facts) fault mid now

  -- the part ends it: the identifiers of its objects do not ascend, or it refused one of them
  abbrev pub EndsWatch : T → List PartStored → Given → Type 0
  EndsWatch start before part = (IsAscending (rows_given part) → ⊥) ⊎ RefusesIn start before part

  -- one of the parts does
  pub record StopsWatching (start : T) (parts : List PartStored) : Type 0 where
    pub before : List PartStored
    pub part : PartStored
    pub behind : List PartStored
    pub are : parts ≡ before ++ part ∷ behind
    pub ends : EndsWatch start before part.given

  -- if it was there at first and is not any more, one of the parts ended it
  abbrev pub Dropped : (start : Option T) → List PartStored → (now : Option T) → Type 0
  Dropped None parts now = ⊤
  Dropped (Some start) parts None = StopsWatching start parts
  Dropped (Some start) parts (Some now) = ⊤

  -- what a fact does to it, if it is there: it takes an object whose identifier is above the last one; it is dropped if the identifier is
  -- not, or if it refuses the object; it passes by other facts
  --   key: the identifier, if the fact is an object;  last, highest: that of the last object, before and afterwards
  abbrev pub ShowsFact : IdSize → FactValue → (key : Option ℕ) → (old : Option T) → (last : Option ℕ) → (new : Option T)
      → (highest : Option ℕ) → Type 0
  ShowsFact ids fact None old last new highest = (new ≡ old) × (highest ≡ last)
  ShowsFact ids fact (Some id) None last None highest = ⊤
  ShowsFact ids fact (Some id) None last (Some is) highest = ⊥
  ShowsFact ids fact (Some id) (Some was) last None highest =
      (IsAbove id last → ⊥) ⊎ ((fault : E) × (now : T) × refuses was ids fact fault now)
  ShowsFact ids fact (Some id) (Some was) last (Some is) highest = takes was ids fact is × IsAbove id last × (highest ≡ Some id)
