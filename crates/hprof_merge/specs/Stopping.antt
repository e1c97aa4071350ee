-- Where a merge of cursors ends, and where it stops.
use Rattle.std.specs.Prelude.{◌≡◌, ◌⊎◌, ◌-◌, ◌+◌, ◌^◌, ◌++◌, ℕ, List, [], ◌∷◌, Option, Some, slice_set, ⊤}
use Rattle.std.specs.List.{HoldsAt}
use Rattle.hprof_merge.specs.declared.merge_fault.MergeFault.{MergeFault}
use Rattle.hprof_merge.specs.declared.merge_fault.MergeFault.TheVariants.{OutOfMemory, TwoContents, Cursor, Sink}
use Rattle.hprof_merge.specs.Rows.{ByteRow, Has, first_key}
use Rattle.hprof_merge.specs.Union.{rows_at, AnyHas, AllFrom}
use Rattle.hprof_merge.specs.TwoContents.{HasTwoContents, IsLeastWithTwoContents}
use Rattle.hprof_merge.specs.Contest.{MatchesBut}
use Rattle.hprof_merge.specs.Merging.{TakesAll, TakesBelow, RefusesRow}
use Rattle.hprof_merge.specs.Showing.{all_shown, AllShow}

-- the cursor at a place failed as it was to go on
pub record FailsAt {C F : Type 0} (fails : C → F → C → Type 0) (place : ℕ) (fault : F) (old new : List C) : Type 0 where
  pub next : C
  pub is : new ≡ slice_set old place next
  pub failed : HoldsAt (λ cursor. fails cursor fault next) old place

-- what a stop leaves: the cursor that failed as its fault left it, and all others as they were
abbrev pub LeavesCursors : {C F G : Type 0} → (C → F → C → Type 0) → MergeFault F G → List C → List C → Type 0
LeavesCursors fails (Cursor place fault) old new = FailsAt fails place fault old new
LeavesCursors fails OutOfMemory old new = old ≡ new
LeavesCursors fails (TwoContents key) old new = old ≡ new
LeavesCursors fails (Sink fault) old new = old ≡ new

-- it is a fault of the cursor at this place
abbrev pub IsFaultAt : {F G : Type 0} → ℕ → MergeFault F G → Type 0
IsFaultAt place (Cursor at fault) = at ≡ place
IsFaultAt place OutOfMemory = ⊥
IsFaultAt place (TwoContents key) = ⊥
IsFaultAt place (Sink fault) = ⊥

-- unless the sink refused a row, this holds
abbrev pub UnlessRefused : {F G : Type 0} → Type 0 → MergeFault F G → Type 0
UnlessRefused P (Sink fault) = ⊤
UnlessRefused P OutOfMemory = P
UnlessRefused P (TwoContents key) = P
UnlessRefused P (Cursor place fault) = P

-- among rows of which none is below the key: a fault of a cursor that shows the key, or two contents of it
abbrev pub StopsLevel : {F G : Type 0} → ℕ → List (List ByteRow) → MergeFault F G → Type 0
StopsLevel key now (Cursor place fault) = first_key (rows_at now place) ≡ Some key
StopsLevel key now OutOfMemory = ⊥
StopsLevel key now (TwoContents other) = (other ≡ key) × HasTwoContents now key
StopsLevel key now (Sink fault) = ⊥

module _ {C : Type 0} (shown : C → Option ByteRow) (goes : C → C → Type 0) where
  -- cursors went on from rows that the cursor that is held shows too; it still shows its row, and no cursor shows a row below the key
  pub record PassesEquals (key held : ℕ) (old new : List C) (heads : List (Option ℕ)) : Type 0 where
    pub came : List (List ByteRow)
    pub shows : AllShow shown goes old new came
    pub equal : (row : ByteRow) → AnyHas came row → Has (rows_at (all_shown shown old) held) row
    pub matches : MatchesBut held heads (all_shown shown new)
    pub kept : rows_at (all_shown shown new) held ≡ rows_at (all_shown shown old) held
    pub least : AllFrom key (all_shown shown new)

  -- cursors were passed over, up to a stop
  pub record StopsPassing {F G : Type 0} (fails : C → F → C → Type 0) (key held : ℕ) (old new : List C)
      (stop : MergeFault F G) : Type 0 where
    pub mid : List C
    pub heads : List (Option ℕ)
    pub passes : PassesEquals key held old mid heads
    pub leaves : LeavesCursors fails stop mid new
    pub stops : StopsLevel key (all_shown shown mid) stop

  -- each cursor showed all its rows, up to its end, and the sink was run over all of them
  pub record MergesAll {T : Type 0} (steps : T → ℕ → List ℕ → T → Type 0) (old new : List C) (old_sink new_sink : T) : Type 0 where
    pub came : List (List ByteRow)
    pub shows : AllShow shown goes old new came
    pub ended : (row : ByteRow) → AnyHas (all_shown shown new) row → ⊥
    pub taken : TakesAll steps came old_sink new_sink

module _ {T : Type 0} (steps : T → ℕ → List ℕ → T → Type 0) where
  -- the sink was run over the rows below the key, and perhaps over the one at it
  abbrev pub TakesUpTo : List (List ByteRow) → ℕ → T → T → Type 0
  TakesUpTo lists key old new = TakesBelow steps lists key old new ⊎ TakesBelow steps lists (key + 1) old new

  -- why a merge stopped, of the rows that came and those that the cursors showed at the stop: memory ran out before a row came; the least
  -- key has two contents; a cursor failed at the row that it showed; the sink refused a row. No cursor shows a row below that key, so
  -- whatever comes later is not below it either
  abbrev pub StopsBecause : {F G : Type 0} → (T → ℕ → List ℕ → G → T → Type 0) → List (List ByteRow) → List (List ByteRow) → MergeFault F G
      → T → T → Type 0
  StopsBecause refuses came now OutOfMemory old new = ((row : ByteRow) → AnyHas came row → ⊥) × (old ≡ new)
  StopsBecause refuses came now (TwoContents key) old new =
      AllFrom key now × IsLeastWithTwoContents (came ++ now) key × TakesBelow steps (came ++ now) key old new
  StopsBecause refuses came now (Cursor place fault) old new =
      (key : ℕ) × AllFrom key now × (first_key (rows_at now place) ≡ Some key) × TakesUpTo (came ++ now) key old new
  StopsBecause refuses came now (Sink fault) old new =
      (row : ByteRow) × AllFrom row.0 now × RefusesRow steps refuses (came ++ now) row fault old new

-- where a merge stops: each cursor showed the rows of its list before, and one of them may have failed then
pub record StopsMerging {C T F G : Type 0} (shown : C → Option ByteRow) (goes : C → C → Type 0) (steps : T → ℕ → List ℕ → T → Type 0)
    (fails : C → F → C → Type 0) (refuses : T → ℕ → List ℕ → G → T → Type 0) (old new : List C) (stop : MergeFault F G)
    (old_sink new_sink : T) : Type 0 where
  pub came : List (List ByteRow)
  pub mid : List C
  pub shows : AllShow shown goes old mid came
  pub leaves : LeavesCursors fails stop mid new
  pub stops : StopsBecause steps refuses came (all_shown shown mid) stop old_sink new_sink

-- how far the rows that are shown may still rise
abbrev pub room_of : List ByteRow → ℕ
room_of [] = 0
room_of (row ∷ rows) = 2 ^ 64 - row.0
