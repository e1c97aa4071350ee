-- What a log of objects holds of the parts that were read.
use Rattle.std.specs.Prelude.{◌≡◌, ◌⊎◌, ℕ, List, [], ◌∷◌, ◌++◌, length, Option, Some, None, ⊤}
use Rattle.hprof_devices.specs.declared.health.Health.{Health}
use Rattle.hprof_stream.specs.declared.limits.Limits.{Limits}
use Rattle.hprof_stream.specs.declared.part_place.PartPlace.{PartPlace}
use Rattle.hprof_merge.specs.Rows.{ByteRow, Has}
use Rattle.hprof_merge.specs.Union.{AnyHas}
use Rattle.hprof_runs.specs.declared.runs.Runs.{Runs}
use Rattle.hprof_runs.specs.Runs.{HoldsRuns}
use Rattle.hprof_objects.specs.declared.cut.Cut.{Cut}
use Rattle.hprof_objects.specs.declared.growing.Growing.{Growing}
use Rattle.hprof_objects.specs.declared.object_log.ObjectLog.{ObjectLog}
use Rattle.hprof_objects.specs.declared.open_cut.OpenCut.{OpenCut}
use Rattle.hprof_objects.specs.declared.stretch.Stretch.{Stretch}
use Rattle.hprof_objects.specs.Cuts.{AreCut, CutInto, all_rows}
use Rattle.hprof_objects.specs.Enough.{IsEnough}
use Rattle.hprof_objects.specs.PartsRead.{PartRead, rows_of_parts}
use Rattle.hprof_objects.specs.Store.{rows_of_store, runs_of_store, scratch_of_store}
use Rattle.hprof_objects.specs.Stretches.{AreStretches, IsGrowingIn, IsPieceOf, IsPlaceIn}

-- the row is in memory, in a run, in a stretch, or in the growing stretch
abbrev pub IsKept : (memory : List ByteRow) (runs lists : List (List ByteRow)) (grown : List ByteRow) → ByteRow → Type 0
IsKept memory runs lists grown row = Has memory row ⊎ (AnyHas runs row ⊎ (AnyHas lists row ⊎ Has grown row))

module _ {S : Type 0} (written : S → Option (List ℕ)) (health : S → Health) (limits : Limits) where
  -- enough of the objects of parts are kept, of which the last one is being read
  --   number: of that part;  memory: the rows in memory;  scratch: the runs in scratch;  stays: the stretches that stay in their parts;
  --   cuts: their cuts, but the last one of the growing stretch, which is open
  pub record Keeps (parts : List PartRead) (part : PartRead) (number : ℕ) (memory : List ByteRow) (scratch : Runs S) (stays : List Stretch)
      (cuts : List Cut) (open_cut : Option OpenCut) (growing : Option Growing) : Type 0 where
    pub numbered : number ≡ length parts
    pub runs : List (List ByteRow)
    pub are_runs : HoldsRuns written health scratch runs
    pub lists : List (List ByteRow)
    pub are_stretches : AreStretches limits (parts ++ part ∷ []) stays lists
    pub grown : List ByteRow
    pub grows : IsGrowingIn limits number part growing memory grown
    pub enough : IsEnough (rows_of_parts (parts ++ part ∷ [])) (IsKept memory runs lists grown)
    pub cut : AreCut limits (parts ++ part ∷ []) part cuts (all_rows lists) open_cut growing grown

  -- the log keeps enough of the objects of these parts, and of one more that is being read
  abbrev pub KeepsLogged : List PartRead → PartRead → ObjectLog S → Type 0
  KeepsLogged parts part log =
      Keeps parts part log.part (rows_of_store log.store) (runs_of_store log.store) log.stretches.items log.cuts.items
      log.cut log.growing

  -- the same with no growing stretch
  abbrev pub KeepsUngrown : List PartRead → PartRead → ObjectLog S → Type 0
  KeepsUngrown parts part log =
      Keeps parts part log.part (rows_of_store log.store) (runs_of_store log.store) log.stretches.items log.cuts.items log.cut None

  -- the same, and where the piece begins that is being read
  abbrev pub HasLogged : List PartRead → PartRead → ObjectLog S → Type 0
  HasLogged parts part log = KeepsLogged parts part log × IsPieceOf limits part log.piece

  -- the log keeps enough of the objects of these parts, and none is being read
  pub record HoldsParts (parts : List PartRead) (log : ObjectLog S) : Type 0 where
    pub no_growing : log.growing ≡ None
    pub runs : List (List ByteRow)
    pub are_runs : HoldsRuns written health (runs_of_store log.store) runs
    pub lists : List (List ByteRow)
    pub are_stretches : AreStretches limits parts log.stretches.items lists
    pub enough : IsEnough (rows_of_parts parts) (IsKept (rows_of_store log.store) runs lists [])
    pub cut : CutInto limits parts log.cuts.items (all_rows lists)

-- the scratch of a log
abbrev pub scratch_of_log : {S : Type 0} → ObjectLog S → S
scratch_of_log log = scratch_of_store log.store

-- the place, if there is one, is behind all facts that were taken of the part
abbrev pub IsPlaceNow : Limits → PartRead → Option PartPlace → Type 0
IsPlaceNow limits part None = ⊤
IsPlaceNow limits part (Some place) = IsPlaceIn limits part place []
