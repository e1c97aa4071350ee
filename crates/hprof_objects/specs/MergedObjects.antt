-- What a merge of stored objects gives to its sink, and why it stops.
use Rattle.std.specs.Prelude.{ℕ, List, Option, Result, Ok, Err, ⊤}
use Rattle.hprof_merge.specs.Rows.{ByteRow}
use Rattle.hprof_merge.specs.Merging.{RefusesRow, TakesAll, TakesBelow}
use Rattle.hprof_merge.specs.TwoContents.{IsLeastWithTwoContents}
use Rattle.hprof_devices.specs.declared.health.Health.{Health}
use Rattle.hprof_stream.specs.declared.limits.Limits.{Limits}
use Rattle.hprof_runs.specs.RunFault.{IfDamaged, IfReadFailed}
use Rattle.hprof_objects.specs.declared.object_fault.ObjectFault.{ObjectFault}
use Rattle.hprof_objects.specs.declared.object_fault.ObjectFault.TheVariants.{OutOfMemory, TwoContents, Scratch, Part, Sink}
use Rattle.hprof_objects.specs.declared.stored_objects.StoredObjects.{StoredObjects}
use Rattle.hprof_objects.specs.PartsRead.{PartRead}
use Rattle.hprof_objects.specs.ReadAgain.{IsSameAt}
use Rattle.hprof_objects.specs.StoredObjects.{HoldsObjects}
use Rattle.hprof_objects.specs.StretchFault.{ByFault}

module _ {T : Type 0} (steps : T → ℕ → List ℕ → T → Type 0) where
  -- the sink was run over the rows of the lists below some key, in order of key, each once
  abbrev pub TakesFront : List (List ByteRow) → T → T → Type 0
  TakesFront lists old new = (bound : ℕ) × TakesBelow steps lists bound old new

  -- why a merge of these lists stopped, and what the sink took before: at the least key with two contents all rows below it, at a row that
  -- the sink refused all rows below that one
  abbrev pub StopsWithin : {G : Type 0} → (T → ℕ → List ℕ → G → T → Type 0) → List (List ByteRow) → ObjectFault G → T → T → Type 0
  StopsWithin refuses lists OutOfMemory old new = TakesFront lists old new
  StopsWithin refuses lists (TwoContents key) old new = IsLeastWithTwoContents lists key × TakesBelow steps lists key old new
  StopsWithin refuses lists (Scratch fault) old new = TakesFront lists old new
  StopsWithin refuses lists (Part part fault) old new = TakesFront lists old new
  StopsWithin refuses lists (Sink fault) old new = (row : ByteRow) × RefusesRow steps refuses lists row fault old new

  -- what a merge of these lists answers, and what it does to the sink
  abbrev pub MergesLists : {A G : Type 0} → (T → ℕ → List ℕ → G → T → Type 0) → List (List ByteRow) → Result A (ObjectFault G) → T → T
      → Type 0
  MergesLists refuses lists (Ok done) old new = TakesAll steps lists old new
  MergesLists refuses lists (Err stop) old new = StopsWithin refuses lists stop old new

module _ {S : Type 0} (written : S → Option (List ℕ)) (health : S → Health) (limits : Limits) (told : List (Option (List ℕ)))
    (objects : StoredObjects S) where
  -- a damage: the scratch does not hold what was written; a change: that part is not the same as when it was read
  --   told: the bytes of each part now, where they are told
  abbrev pub TellsChange : {G : Type 0} → ObjectFault G → Type 0
  TellsChange OutOfMemory = ⊤
  TellsChange (TwoContents key) = ⊤
  TellsChange (Scratch fault) = IfDamaged fault ((reads : List PartRead) → HoldsObjects written health limits reads objects → ⊥)
  TellsChange (Part part fault) = ByFault fault ⊤ ((reads : List PartRead) → HoldsObjects written health limits reads objects
      → IsSameAt limits told reads part → ⊥)
  TellsChange (Sink fault) = ⊤

-- if a read of the scratch failed, this holds
abbrev pub IfScratchFails : {G : Type 0} → ObjectFault G → Type 0 → Type 0
IfScratchFails OutOfMemory P = ⊤
IfScratchFails (TwoContents key) P = ⊤
IfScratchFails (Scratch fault) P = IfReadFailed fault P
IfScratchFails (Part part fault) P = ⊤
IfScratchFails (Sink fault) P = ⊤

-- unless the sink refused a row, this holds
abbrev pub UnlessRefused : {A G : Type 0} → Type 0 → Result A (ObjectFault G) → Type 0
UnlessRefused P (Ok done) = P
UnlessRefused P (Err OutOfMemory) = P
UnlessRefused P (Err (TwoContents key)) = P
UnlessRefused P (Err (Scratch fault)) = P
UnlessRefused P (Err (Part part fault)) = P
UnlessRefused P (Err (Sink fault)) = ⊤
