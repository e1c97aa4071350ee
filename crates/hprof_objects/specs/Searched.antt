-- Cuts in which identifiers are looked up.
use Rattle.std.specs.Prelude.{◌≡◌, ◌⊎◌, ◌<◌, ◌≤◌, ◌++◌, ℕ, Bool, true, false, List, [], ◌∷◌, Option, Some, None, Result, Ok, Err, ⊤}
use Rattle.hprof_devices.specs.declared.health.Health.{Health}
use Rattle.hprof_stream.specs.declared.limits.Limits.{Limits}
use Rattle.hprof_merge.specs.OneOf.{of_either}
use Rattle.hprof_merge.specs.Rows.{ByteRow, Has}
use Rattle.hprof_runs.specs.RunCursor.{run_shown}
use Rattle.hprof_objects.specs.declared.any_cut.AnyCut.{AnyCut}
use Rattle.hprof_objects.specs.declared.object_fault.ObjectFault.{ObjectFault}
use Rattle.hprof_objects.specs.declared.searched.Searched.{Searched}
use Rattle.hprof_objects.specs.AnyCuts.{Among, AreApart, Comes, CutCanGoOn, CutComes, CutCursor, IsOver, TellsCut, last_in}
use Rattle.hprof_objects.specs.StretchCursor.{stretch_shown}

-- the row that is shown, if a cut is open
abbrev pub cut_shown : {S R : Type 0} → CutCursor S R → Option ByteRow
cut_shown it = of_either run_shown stretch_shown it

abbrev pub open_shown : {S R : Type 0} → Option (CutCursor S R) → Option ByteRow
open_shown None = None
open_shown (Some it) = cut_shown it

-- it can be asked for the next object
abbrev pub OpenCanGoOn : {S R : Type 0} → (R → Health) → Option (CutCursor S R) → Type 0
OpenCanGoOn health None = ⊤
OpenCanGoOn health (Some it) = CutCanGoOn health it

-- the first cut does not lie below the identifier
abbrev pub BeginFrom : ℕ → List AnyCut → Type 0
BeginFrom id [] = ⊤
BeginFrom id (cut ∷ cuts) = id ≤ last_in cut

-- the cuts below the identifier were passed
pub record PassesBelow {S R : Type 0} (id : ℕ) (old new : Searched S R) : Type 0 where
  pub passed : List AnyCut
  pub are : old.cuts.now ≡ passed ++ new.cuts.now
  pub below : (cut : AnyCut) → Among passed cut → last_in cut < id
  pub opened : ((new.cursor ≡ old.cursor) × (passed ≡ [])) ⊎ (new.cursor ≡ None)

-- none is left out but those below the identifier
pub record KeepsFrom (id : ℕ) (old new : List AnyCut) : Type 0 where
  pub kept : (cut : AnyCut) → Among old cut → Among new cut ⊎ (last_in cut < id)
  pub only : (cut : AnyCut) → Among new cut → Among old cut

-- a sink took the row that is shown, or refused it
abbrev pub Gives : {T G A : Type 0} → (T → ℕ → List ℕ → T → Type 0) → (T → ℕ → List ℕ → G → T → Type 0) → Option ByteRow → Result A G
    → T → T → Type 0
Gives steps refuses None (Ok done) old new = old ≡ new
Gives steps refuses None (Err fault) old new = ⊥
Gives steps refuses (Some row) (Ok done) old new = steps old row.0 row.1 new
Gives steps refuses (Some row) (Err fault) old new = refuses old row.0 row.1 fault new

module _ {S R : Type 0} (written : S → Option (List ℕ)) (left : R → Option (List ℕ)) (health : R → Health) (pulls : R → ℕ) (scratch : S)
    (limits : Limits) (told : List (Option (List ℕ))) where
  -- it comes to these rows, but for the first ones, which are below the key
  pub record ComesBehind (key : ℕ) (rows : List ByteRow) (it : CutCursor S R) : Type 0 where
    pub passed : List ByteRow
    pub rest : List ByteRow
    pub are : rows ≡ passed ++ rest
    pub below : (row : ByteRow) → Has passed row → row.0 < key
    pub comes : CutComes written left health pulls it rest

  -- it is over the cut, and no row at the key or above it was passed
  pub record StandsIn (cut : AnyCut) (key : ℕ) (it : CutCursor S R) : Type 0 where
    pub over : IsOver scratch cut it
    pub comes : (rows : List ByteRow) → Comes written scratch limits told cut rows → ComesBehind key rows it

  -- it is over the first of the cuts
  abbrev pub StandsOpen : ℕ → Option (CutCursor S R) → List AnyCut → Type 0
  StandsOpen key None cuts = ⊤
  StandsOpen key (Some it) [] = ⊤
  StandsOpen key (Some it) (cut ∷ cuts) = StandsIn cut key it

  -- no row at the key or above it was passed
  pub record IsReady (key : ℕ) (it : Searched S R) : Type 0 where
    pub apart : AreApart it.cuts.now
    pub can : OpenCanGoOn health it.cursor
    pub stands : StandsOpen key it.cursor it.cuts.now

  -- the cut is open
  pub record IsOpenAt (cut : AnyCut) (key : ℕ) (cursor : Option (CutCursor S R)) : Type 0 where
    pub it : CutCursor S R
    pub is : cursor ≡ Some it
    pub can : CutCanGoOn health it
    pub stands : StandsIn cut key it

module _ {S : Type 0} (written : S → Option (List ℕ)) (scratch : S) (limits : Limits) (told : List (Option (List ℕ))) where
  -- one of the cuts has the row
  pub record LiesIn (cuts : List AnyCut) (row : ByteRow) : Type 0 where
    pub cut : AnyCut
    pub among : Among cuts cut
    pub lies : (rows : List ByteRow) → Comes written scratch limits told cut rows → Has rows row

  -- none of the cuts has a row with the identifier
  abbrev pub LackFor : ℕ → AnyCut → Type 0
  LackFor id cut = (rows : List ByteRow) → Comes written scratch limits told cut rows → (bytes : List ℕ) → Has rows (id, bytes) → ⊥

  -- whether one of the cuts has a row with the identifier, which is shown then
  abbrev pub Finds : ℕ → Bool → List AnyCut → Option ByteRow → Type 0
  Finds id true cuts shown = (bytes : List ℕ) × (shown ≡ Some (id, bytes)) × LiesIn cuts (id, bytes)
  Finds id false cuts shown = (cut : AnyCut) → Among cuts cut → LackFor id cut

  -- it is a stop of reading one of the cuts
  pub record StopsIn {G : Type 0} (unreadable : S → Type 0) (cuts : List AnyCut) (stop : ObjectFault G) : Type 0 where
    pub cut : AnyCut
    pub among : Among cuts cut
    pub tells : TellsCut written scratch limits told unreadable cut stop
