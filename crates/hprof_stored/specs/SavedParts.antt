-- Parts that were read, whatever their faults, and whose objects are kept apart.
use Rattle.std.specs.Prelude.{◌≡◌, ℕ, List, [], ◌∷◌, length, map, take, Option, Some, None, ⊤}
use Rattle.std.specs.List.{AllByRecursion}
use Rattle.hprof_values.specs.declared.ids.IdSize.{IdSize}
use Rattle.hprof_values.specs.declared.ids.IdSize.TheVariants.{Four}
use Rattle.hprof_items.specs.declared.header.Header.{Header}
use Rattle.hprof_devices.specs.declared.health.Health.{Health}
use Rattle.hprof_stream.specs.declared.limits.Limits.{Limits}
use Rattle.hprof_objects.specs.PartsRead.{PartRead}
use Rattle.hprof_objects.specs.ReadAgain.{IsSame}
use Rattle.hprof_engine.specs.declared.salvaged.FaultedPart.{FaultedPart}
use Rattle.hprof_engine.specs.Salvaging as salvaging
use Rattle.hprof_engine.specs.Salvaging.{AreReadSo, all_handled, faults_of}
use Rattle.hprof_engine.specs.Saved.{IsSaved, Saved, given_of}
use Rattle.hprof_stored.specs.Holding.{Earlier}

-- what is saved of a part, and its bytes: all that it has, if they are told, and else those that came
pub record PartSaved : Type 0 where
  pub saved : Saved
  pub bytes : List ℕ

-- the size of the identifiers of a part; a part without a whole header has no objects, under whatever size
abbrev pub size_in : Option Header → IdSize
size_in None = Four
size_in (Some header) = header.ids

-- the part as a log of objects sees it
abbrev pub read_saved : PartSaved → PartRead
read_saved part = record { ids = size_in part.saved.header; bytes = part.bytes; facts = part.saved.facts }

abbrev pub all_saved : List PartSaved → List Saved
all_saved parts = map (λ part. part.saved) parts

-- parts that came before another
abbrev pub saved_before : Option (List ℕ) → List PartSaved → Earlier
saved_before scratch parts = record { scratch = scratch; given = given_of (all_saved parts); reads = map read_saved parts }

-- if a reader told its part, the facts that were saved stand in the bytes that it told
abbrev pub IsSameIfTold : Limits → Option (List ℕ) → PartSaved → Type 0
IsSameIfTold limits None part = ⊤
IsSameIfTold limits (Some bytes) part = IsSame limits (Some bytes) (read_saved part)

abbrev pub AreSameIfTold : Limits → List (Option (List ℕ)) → List PartSaved → Type 0
AreSameIfTold limits [] [] = ⊤
AreSameIfTold limits (left ∷ lefts) (part ∷ parts) = IsSameIfTold limits left part × AreSameIfTold limits lefts parts
AreSameIfTold limits [] (part ∷ parts) = ⊥
AreSameIfTold limits (left ∷ lefts) [] = ⊥

module _ {R : Type 0} (left : R → Option (List ℕ)) (health : R → Health) (pulls : R → ℕ) (limits : Limits) (old new : List R) where
  -- so many parts, from the first on, were read; so many have a whole header, and their faults are listed
  pub record ReadsSaved (count headed : ℕ) (listed : List FaultedPart) : Type 0 where
    pub reads : List salvaging.PartRead
    pub each : AreReadSo left health pulls limits old new reads
    pub all : length reads ≡ count
    pub parts : List PartSaved
    pub of_reads : map (λ one. one.bytes) (all_saved parts) ≡ all_handled limits reads
    pub are_saved : AllByRecursion (IsSaved limits.max_item) (all_saved parts)
    pub same : AreSameIfTold limits (map left (take count old)) parts
    pub counted : headed ≡ length (given_of (all_saved parts))
    pub has_listed : listed ≡ faults_of reads
