-- The cuts of stretches, and which objects they have.
use Rattle.std.specs.Prelude.{◌≡◌, ◌-◌, ℕ, List, [], ◌∷◌, ◌++◌, length, Option, Some, None, ⊤}
use Rattle.hprof_stream.specs.declared.limits.Limits.{Limits}
use Rattle.hprof_merge.specs.Rows.{ByteRow}
pub use Rattle.hprof_runs.specs.RunCuts.{all_rows}
use Rattle.hprof_objects.specs.declared.cut.Cut.{Cut}
use Rattle.hprof_objects.specs.declared.growing.Growing.{Growing}
use Rattle.hprof_objects.specs.declared.growing.Piece.{Piece}
use Rattle.hprof_objects.specs.declared.growing.Stands.{Stands}
use Rattle.hprof_objects.specs.declared.growing.Stands.TheVariants.{InMemory, InPart}
use Rattle.hprof_objects.specs.declared.open_cut.OpenCut.{OpenCut}
use Rattle.hprof_objects.specs.declared.stretch.Stretch.{Stretch}
use Rattle.hprof_objects.specs.PartsRead.{PartRead}
use Rattle.hprof_objects.specs.Stretches.{BeginsAt, EndsAt, IsStretch, StandsIn}

-- ---- cuts

-- these rows are the objects of the cut
pub record IsCutOf (limits : Limits) (parts : List PartRead) (cut : Cut) (rows : List ByteRow) : Type 0 where
  pub is : IsStretch limits parts cut.stretch rows
  pub first : BeginsAt rows cut.first
  pub last : EndsAt rows cut.last

-- each list of rows is that of its cut
abbrev pub AreCuts : Limits → List PartRead → List Cut → List (List ByteRow) → Type 0
AreCuts limits parts [] [] = ⊤
AreCuts limits parts (cut ∷ cuts) (rows ∷ lists) = IsCutOf limits parts cut rows × AreCuts limits parts cuts lists
AreCuts limits parts _ _ = ⊥

-- the cuts, one after another, have exactly these rows
pub record CutInto (limits : Limits) (parts : List PartRead) (cuts : List Cut) (rows : List ByteRow) : Type 0 where
  pub lists : List (List ByteRow)
  pub are : AreCuts limits parts cuts lists
  pub whole : all_rows lists ≡ rows

-- ---- the last cut of a growing stretch

-- the objects of a growing stretch behind so many, from a piece on
abbrev pub stretch_of : OpenCut → Growing → Stretch
stretch_of cut growing = record {
  part = growing.stretch.part;
  place = cut.piece.place;
  passed = cut.piece.passed;
  count = growing.stretch.count - cut.before;
}

-- the cut with the objects that the growing stretch has
abbrev pub cut_of : OpenCut → Growing → Cut
cut_of cut growing = record { first = cut.first; last = growing.last; stretch = stretch_of cut growing }

-- the cut of all objects of a growing stretch
abbrev pub whole_cut : Growing → OpenCut
whole_cut growing = record {
  first = growing.first;
  piece = record { place = growing.stretch.place; passed = growing.stretch.passed };
  before = 0;
}

-- the cut behind all of them, which begins with an object of that identifier
abbrev pub cut_behind : Growing → Piece → ℕ → OpenCut
cut_behind growing piece id = record { first = id; piece = piece; before = growing.stretch.count }

-- the cut alone, if the stretch stays in its part
abbrev pub cut_staying : Stands → Option OpenCut → Growing → List Cut
cut_staying (InMemory from) cut growing = []
cut_staying InPart None growing = []
cut_staying InPart (Some cut) growing = cut_of cut growing ∷ []

abbrev pub last_cut : Option Growing → Option OpenCut → List Cut
last_cut None cut = []
last_cut (Some growing) cut = cut_staying growing.stands cut growing

-- ---- how objects are cut while they come

-- of the rows of a growing stretch the first ones are in other cuts, and all behind them in the one that goes on
--   parts: with the part that is read;  rows: those of the stretches before
pub record IsCutSoFar (limits : Limits) (parts : List PartRead) (part : PartRead) (cuts : List Cut) (rows : List ByteRow)
    (cut : OpenCut) (growing : Growing) (grown : List ByteRow) : Type 0 where
  pub front : List ByteRow
  pub back : List ByteRow
  pub whole : grown ≡ front ++ back
  pub others : CutInto limits parts cuts (rows ++ front)
  pub before : cut.before ≡ length front
  pub stands : StandsIn limits part (stretch_of cut growing) back []
  pub first : BeginsAt back cut.first
  pub last : EndsAt back growing.last

module _ (limits : Limits) (parts : List PartRead) (part : PartRead) (cuts : List Cut) (rows : List ByteRow) where
  abbrev pub AreCutStanding : Stands → Option OpenCut → Growing → List ByteRow → Type 0
  AreCutStanding (InMemory from) cut growing grown = CutInto limits parts cuts rows
  AreCutStanding InPart None growing grown = ⊥
  AreCutStanding InPart (Some cut) growing grown = IsCutSoFar limits parts part cuts rows cut growing grown

  -- the rows of the stretches that stay are cut, and those of the growing one if it stays
  abbrev pub AreCut : Option OpenCut → Option Growing → List ByteRow → Type 0
  AreCut cut None grown = CutInto limits parts cuts rows
  AreCut cut (Some growing) grown = AreCutStanding growing.stands cut growing grown
