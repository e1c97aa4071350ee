-- Parts that were read to their ends, and whose objects are kept apart.
use Rattle.std.specs.Prelude.{◌≡◌, ℕ, List, [], ◌∷◌, map, Option, Some, None, ⊤}
use Rattle.hprof_stream.specs.declared.limits.Limits.{Limits}
use Rattle.hprof_stream.specs.Part.{IsPart}
use Rattle.hprof_heap.specs.Gathering.{Given}
use Rattle.hprof_engine.specs.Joining.{IsAccepted}
use Rattle.hprof_objects.specs.PartsRead.{PartRead}
use Rattle.hprof_objects.specs.Whole.{without_objects}

-- the header and the facts of a part, and its bytes
pub record PartStored : Type 0 where
  pub given : Given
  pub bytes : List ℕ

-- what the parts gave
abbrev pub given_of : List PartStored → List Given
given_of parts = map (λ part. part.given) parts

-- what they gave beside their objects
abbrev pub others_of : List PartStored → List Given
others_of parts = map without_objects (given_of parts)

-- the parts as a log of objects sees them
abbrev pub read_of : PartStored → PartRead
read_of part = record { ids = part.given.header.ids; bytes = part.bytes; facts = part.given.facts }

abbrev pub all_read : List PartStored → List PartRead
all_read parts = map read_of parts

-- the bytes are all that a reader had to tell, if it told
abbrev pub AreAllOf : Option (List ℕ) → List ℕ → Type 0
AreAllOf None bytes = ⊤
AreAllOf (Some all) bytes = bytes ≡ all

-- what a reader had to tell is a part that was read to its end, and states what was given
pub record IsStored (limits : Limits) (left : Option (List ℕ)) (part : PartStored) : Type 0 where
  pub all : AreAllOf left part.bytes
  pub accepted : IsAccepted limits part.bytes
  pub states : IsPart part.bytes part.given.header.ids part.given.header.millis part.given.facts

abbrev pub AreStored : Limits → List (Option (List ℕ)) → List PartStored → Type 0
AreStored limits [] [] = ⊤
AreStored limits (left ∷ lefts) (part ∷ parts) = IsStored limits left part × AreStored limits lefts parts
AreStored limits [] (part ∷ parts) = ⊥
AreStored limits (left ∷ lefts) [] = ⊥
