-- Which objects of a part are those of a stretch.
use Rattle.std.specs.Prelude.{◌≡◌, ℕ, List, [], ◌∷◌, ◌++◌, length, Option, Some, None, slice_get, ⊤}
use Rattle.hprof_items.specs.FactValue.{FactValue}
use Rattle.hprof_stream.specs.declared.limits.Limits.{Limits}
use Rattle.hprof_stream.specs.declared.part_place.PartPlace.{PartPlace}
use Rattle.hprof_stream.specs.PartPlaces.{IsPlaceBehind}
use Rattle.hprof_merge.specs.Rows.{ByteRow, IsAscending}
use Rattle.hprof_objects.specs.declared.growing.Growing.{Growing}
use Rattle.hprof_objects.specs.declared.growing.Piece.{Piece}
use Rattle.hprof_objects.specs.declared.growing.Stands.{Stands}
use Rattle.hprof_objects.specs.declared.growing.Stands.TheVariants.{InMemory, InPart}
use Rattle.hprof_objects.specs.declared.stretch.Stretch.{Stretch}
use Rattle.hprof_objects.specs.ObjectRows.{object_rows}
use Rattle.hprof_objects.specs.PartsRead.{PartRead}

-- the place is behind some of the facts of a part, and these are the facts that were taken since
pub record IsPlaceIn (limits : Limits) (part : PartRead) (place : PartPlace) (since : List FactValue) : Type 0 where
  pub front : List ℕ
  pub back : List ℕ
  pub told : List FactValue
  pub cuts_bytes : part.bytes ≡ front ++ back
  pub cuts_facts : part.facts ≡ told ++ since
  pub behind : IsPlaceBehind limits front told place

-- these rows are the objects of the stretch; these come behind them in the part
pub record StandsIn (limits : Limits) (part : PartRead) (stretch : Stretch) (rows more : List ByteRow) : Type 0 where
  pub before : List FactValue
  pub after : List FactValue
  pub place : IsPlaceIn limits part stretch.place (before ++ after)
  pub passed : stretch.passed ≡ length before
  pub are : object_rows part.ids after ≡ rows ++ more
  pub count : stretch.count ≡ length rows
  pub ascend : IsAscending rows

-- these rows are the objects of the stretch, in the part that it names
pub record IsStretch (limits : Limits) (parts : List PartRead) (stretch : Stretch) (rows : List ByteRow) : Type 0 where
  pub part : PartRead
  pub is : slice_get parts stretch.part ≡ Some part
  pub more : List ByteRow
  pub stands : StandsIn limits part stretch rows more

-- each list of rows is that of its stretch
abbrev pub AreStretches : Limits → List PartRead → List Stretch → List (List ByteRow) → Type 0
AreStretches limits parts [] [] = ⊤
AreStretches limits parts (stretch ∷ stretches) (rows ∷ lists) =
    IsStretch limits parts stretch rows × AreStretches limits parts stretches lists
AreStretches limits parts _ _ = ⊥

-- the piece begins at a place of the part, behind which so many facts were taken
pub record IsPiece (limits : Limits) (part : PartRead) (piece : Piece) : Type 0 where
  pub since : List FactValue
  pub place : IsPlaceIn limits part piece.place since
  pub passed : piece.passed ≡ length since

abbrev pub IsPieceOf : Limits → PartRead → Option Piece → Type 0
IsPieceOf limits part None = ⊤
IsPieceOf limits part (Some piece) = IsPiece limits part piece

-- the first of the rows has this key
abbrev pub BeginsAt : List ByteRow → ℕ → Type 0
BeginsAt rows key = (bytes : List ℕ) × (behind : List ByteRow) × (rows ≡ (key, bytes) ∷ behind)

-- the last of the rows has this key
abbrev pub EndsAt : List ByteRow → ℕ → Type 0
EndsAt rows key = (before : List ByteRow) × (bytes : List ℕ) × (rows ≡ before ++ (key, bytes) ∷ [])

-- where the rows of a growing stretch are: the last ones in memory, from this one on; or in the part alone
abbrev pub StandAt : Stands → List ByteRow → List ByteRow → Type 0
StandAt (InMemory from) rows memory = (front : List ByteRow) × (memory ≡ front ++ rows) × (length front ≡ from)
StandAt InPart rows memory = ⊤

-- a growing stretch has all objects of the part from its first one on
--   number: of the part;  memory: the rows in memory
pub record IsGrowingStretch (limits : Limits) (number : ℕ) (part : PartRead) (growing : Growing) (memory rows : List ByteRow) : Type 0 where
  pub of_part : growing.stretch.part ≡ number
  pub stands : StandsIn limits part growing.stretch rows []
  pub first : BeginsAt rows growing.first
  pub last : EndsAt rows growing.last
  pub at : StandAt growing.stands rows memory

-- these are the rows of the growing stretch, if there is one
abbrev pub IsGrowingIn : Limits → ℕ → PartRead → Option Growing → List ByteRow → List ByteRow → Type 0
IsGrowingIn limits number part None memory rows = rows ≡ []
IsGrowingIn limits number part (Some growing) memory rows = IsGrowingStretch limits number part growing memory rows
