-- What a sink is given, one identifier after another.
use Rattle.std.specs.Prelude.{◌≡◌, ◌⊎◌, ℕ, List, Option, Some, None, Result, Ok, Err, ⊤}
use Rattle.hprof_stream.specs.declared.limits.Limits.{Limits}
use Rattle.hprof_merge.specs.Rows.{ByteRow, Has, IsAscending}
use Rattle.hprof_merge.specs.Run.{Runs}
use Rattle.hprof_runs.specs.declared.sorted_rows.SortedRows.{SortedRows}
use Rattle.hprof_runs.specs.RowsIn.{sorted_in}
use Rattle.hprof_objects.specs.declared.any_cut.AnyCut.{AnyCut}
use Rattle.hprof_objects.specs.declared.object_fault.ObjectFault.{ObjectFault}
use Rattle.hprof_objects.specs.declared.object_fault.ObjectFault.TheVariants.{OutOfMemory, TwoContents, Scratch, Part, Sink}
use Rattle.hprof_objects.specs.AnyCuts.{Among}
use Rattle.hprof_objects.specs.Picks.{PicksFirst, RefusesAmong}
use Rattle.hprof_objects.specs.Searched.{LackFor, LiesIn}
use Rattle.hprof_objects.specs.Wanted.{wanted_rows}

module _ {S : Type 0} (written : S → Option (List ℕ)) (scratch : S) (limits : Limits) (told : List (Option (List ℕ))) where
  -- none of the cuts has a row with the identifier
  abbrev pub AllLack : ℕ → List AnyCut → Type 0
  AllLack id cuts = (cut : AnyCut) → Among cuts cut → LackFor written scratch limits told id cut

  -- the row is in memory, or one of the cuts has it
  abbrev pub IsThere : SortedRows → List AnyCut → ByteRow → Type 0
  IsThere rows cuts row = Has (sorted_in rows) row ⊎ LiesIn written scratch limits told cuts row

  -- there is no row with the identifier
  abbrev pub IsNowhere : SortedRows → List AnyCut → ℕ → Type 0
  IsNowhere rows cuts id = ((bytes : List ℕ) → Has (sorted_in rows) (id, bytes) → ⊥) × AllLack id cuts

  -- these are all rows that are there, and no two of them have one key
  pub record AreHeld (rows : SortedRows) (cuts : List AnyCut) (all : List ByteRow) : Type 0 where
    pub ascends : IsAscending all
    pub only : (row : ByteRow) → IsThere rows cuts row → Has all row
    pub every : (row : ByteRow) → Has all row → IsNowhere rows cuts row.0 → ⊥

-- if the sink did not refuse a row, this holds of the stop
abbrev pub UnlessOfSink : {G : Type 0} → (ObjectFault G → Type 0) → ObjectFault G → Type 0
UnlessOfSink P OutOfMemory = P OutOfMemory
UnlessOfSink P (TwoContents key) = P (TwoContents key)
UnlessOfSink P (Scratch fault) = P (Scratch fault)
UnlessOfSink P (Part part fault) = P (Part part fault)
UnlessOfSink P (Sink fault) = ⊤

module _ {T G : Type 0} (steps : T → ℕ → List ℕ → T → Type 0) (refuses : T → ℕ → List ℕ → G → T → Type 0) where
  -- the sink took the row that is shown, or refused it
  abbrev pub GivesShown : {A : Type 0} → Option ByteRow → Result A (ObjectFault G) → T → T → Type 0
  GivesShown None (Ok done) old new = old ≡ new
  GivesShown None (Err stop) old new = ⊥
  GivesShown (Some row) (Ok done) old new = steps old row.0 row.1 new
  GivesShown (Some row) (Err OutOfMemory) old new = ⊥
  GivesShown (Some row) (Err (TwoContents key)) old new = ⊥
  GivesShown (Some row) (Err (Scratch fault)) old new = ⊥
  GivesShown (Some row) (Err (Part part fault)) old new = ⊥
  GivesShown (Some row) (Err (Sink fault)) old new = refuses old row.0 row.1 fault new

  -- if a row with the identifier is there, the sink took it or refused it; if there is none, or reading stopped, it is unchanged
  abbrev pub GivesIf : {A : Type 0} → (ByteRow → Type 0) → Type 0 → ℕ → Result A (ObjectFault G) → T → T → Type 0
  GivesIf There Nowhere id (Ok done) old new =
      ((bytes : List ℕ) × There (id, bytes) × steps old id bytes new) ⊎ (Nowhere × (old ≡ new))
  GivesIf There Nowhere id (Err OutOfMemory) old new = old ≡ new
  GivesIf There Nowhere id (Err (TwoContents key)) old new = ⊥
  GivesIf There Nowhere id (Err (Scratch fault)) old new = old ≡ new
  GivesIf There Nowhere id (Err (Part part fault)) old new = old ≡ new
  GivesIf There Nowhere id (Err (Sink fault)) old new = (bytes : List ℕ) × There (id, bytes) × refuses old id bytes fault new

  -- what picking from a list of rows answers, of which none has two contents
  abbrev pub PicksHeld : {A : Type 0} → List ℕ → List ByteRow → Result A (ObjectFault G) → T → T → Type 0
  PicksHeld wanted rows (Ok done) old new = Runs steps old (wanted_rows wanted rows) new
  PicksHeld wanted rows (Err OutOfMemory) old new = PicksFirst steps refuses wanted rows old new
  PicksHeld wanted rows (Err (TwoContents key)) old new = ⊥
  PicksHeld wanted rows (Err (Scratch fault)) old new = PicksFirst steps refuses wanted rows old new
  PicksHeld wanted rows (Err (Part part fault)) old new = PicksFirst steps refuses wanted rows old new
  PicksHeld wanted rows (Err (Sink fault)) old new = RefusesAmong steps refuses wanted rows fault old new
