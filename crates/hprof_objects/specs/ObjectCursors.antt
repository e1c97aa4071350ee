-- Cursors over stored objects, as they are opened, and what a fault of one tells.
use Rattle.std.specs.Prelude.{◌≡◌, ◌+◌, ◌-◌, ◌∷◌, ◌++◌, [], ℕ, zero, suc, All, List, length, map, Option, ⊤}
use Rattle.std.specs.declared.convert.Infallible.{Infallible}
use Rattle.hprof_devices.specs.declared.health.Health.{Health}
use Rattle.hprof_stream.specs.declared.limits.Limits.{Limits}
use Rattle.hprof_merge.specs.declared.merge_fault.MergeFault.{MergeFault}
use Rattle.hprof_merge.specs.declared.merge_fault.MergeFault.TheVariants as stops
use Rattle.hprof_merge.specs.declared.one_of.OneOf.{OneOf}
use Rattle.hprof_merge.specs.declared.one_of.OneOf.TheVariants.{First, Second}
use Rattle.hprof_merge.specs.Rows.{ByteRow}
use Rattle.hprof_runs.specs.declared.firsts.Firsts.{Firsts}
use Rattle.hprof_runs.specs.declared.others.Others.{Others}
use Rattle.hprof_runs.specs.declared.run_cursor.RunCursor.{RunCursor}
use Rattle.hprof_runs.specs.declared.run_fault.RunFault.{RunFault}
use Rattle.hprof_runs.specs.declared.run_fault.RunFault.TheVariants as runs
use Rattle.hprof_runs.specs.AnyRows.{AnyComesTo, IsOverRows}
use Rattle.hprof_runs.specs.Known.{AllComeTo, comes_either}
use Rattle.hprof_runs.specs.Picked.{firsts_of, others_of}
use Rattle.hprof_runs.specs.RowsIn.{sorted_in}
use Rattle.hprof_runs.specs.Runs.{HoldsRuns, run_count}
use Rattle.hprof_objects.specs.declared.object_fault.ObjectFault.{ObjectFault}
use Rattle.hprof_objects.specs.declared.object_fault.ObjectFault.TheVariants.{OutOfMemory, TwoContents, Scratch, Part, Sink}
use Rattle.hprof_objects.specs.declared.stored_objects.StoredObjects.{StoredObjects}
use Rattle.hprof_objects.specs.declared.stretch.Stretch.{Stretch}
use Rattle.hprof_objects.specs.declared.stretch_cursor.StretchCursor.{StretchCursor}
use Rattle.hprof_objects.specs.declared.stretch_fault.StretchFault.{StretchFault}
use Rattle.hprof_objects.specs.declared.stretch_fault.StretchFault.TheVariants as stretches
use Rattle.hprof_objects.specs.StoredObjects.{scratch_under}
use Rattle.hprof_objects.specs.StretchCursor.{OpensStretch}
use Rattle.hprof_objects.specs.StretchKnown.{StretchComes}

-- a cursor over rows in memory, over a run, or over a stretch
abbrev pub ObjectCursor : Type 0 → Type 0 → Type 0
ObjectCursor S R = OneOf (OneOf (OneOf Firsts Others) (RunCursor S)) (StretchCursor R)

-- why the scratch cannot be read back
abbrev pub scratch_stop : {G : Type 0} → RunFault → ObjectFault G
scratch_stop runs.OutOfMemory = OutOfMemory
scratch_stop runs.Read = Scratch runs.Read
scratch_stop runs.Damaged = Scratch runs.Damaged

-- why a part cannot be read again
abbrev pub part_stop : {G : Type 0} → ℕ → StretchFault → ObjectFault G
part_stop part stretches.OutOfMemory = OutOfMemory
part_stop part stretches.Read = Part part stretches.Read
part_stop part stretches.Changed = Part part stretches.Changed

-- why the merge stopped; the cursor at each place reads this part
abbrev pub fault_stop : {G : Type 0} → ℕ → OneOf (OneOf (OneOf Infallible Infallible) RunFault) StretchFault → ObjectFault G
fault_stop part (First (First never)) = OutOfMemory
fault_stop part (First (Second fault)) = scratch_stop fault
fault_stop part (Second fault) = part_stop part fault

abbrev pub object_stop : {G : Type 0} → (ℕ → ℕ) → MergeFault (OneOf (OneOf (OneOf Infallible Infallible) RunFault) StretchFault) G
    → ObjectFault G
object_stop part_at stops.OutOfMemory = OutOfMemory
object_stop part_at (stops.TwoContents key) = TwoContents key
object_stop part_at (stops.Cursor place fault) = fault_stop (part_at place) fault
object_stop part_at (stops.Sink fault) = Sink fault

-- the part of that stretch, if there is one
abbrev pub part_of : List Stretch → ℕ → ℕ
part_of [] index = 0
part_of (stretch ∷ others) zero = stretch.part
part_of (stretch ∷ others) (suc index) = part_of others index

-- the part that the cursor at a place reads: two are over the rows in memory, then one is over each run, then one over each stretch
abbrev pub part_under : {S : Type 0} → StoredObjects S → ℕ → ℕ
part_under objects place = part_of objects.stretches.items (place - (run_count objects.runs + 2))

-- the merge did not begin
abbrev pub IsBefore : {G : Type 0} → ObjectFault G → Type 0
IsBefore OutOfMemory = ⊤
IsBefore (TwoContents key) = ⊥
IsBefore (Scratch fault) = ⊤
IsBefore (Part part fault) = ⊤
IsBefore (Sink fault) = ⊥

module _ {S R : Type 0} (written : S → Option (List ℕ)) (left : R → Option (List ℕ)) (health : R → Health) (pulls : R → ℕ) where
  -- it comes to these rows
  abbrev pub ObjectsCome : ObjectCursor S R → List ByteRow → Type 0
  ObjectsCome it rows = comes_either (AnyComesTo written) (StretchComes left health pulls) it rows

module _ {R : Type 0} (left : R → Option (List ℕ)) (health : R → Health) (pulls : R → ℕ) (limits : Limits)
    (told : List (Option (List ℕ))) where
  -- each stretch is opened
  abbrev pub AllOpen : List Stretch → List (StretchCursor R) → Type 0
  AllOpen [] [] = ⊤
  AllOpen [] (it ∷ cursors) = ⊥
  AllOpen (stretch ∷ others) [] = ⊥
  AllOpen (stretch ∷ others) (it ∷ cursors) = OpensStretch left health pulls limits told stretch it × AllOpen others cursors

  -- a cursor over each stretch was added
  pub record AddsStretches {A : Type 0} (list : List Stretch) (old new : List (OneOf A (StretchCursor R))) : Type 0 where
    pub opened : List (StretchCursor R)
    pub are : new ≡ old ++ map Second opened
    pub each : AllOpen list opened

  -- cursors over the rows in memory and the runs, and behind them a cursor over each stretch
  pub record OpensObjects {S : Type 0} (written : S → Option (List ℕ)) (well : S → Health) (objects : StoredObjects S)
      (cursors : List (ObjectCursor S R)) : Type 0 where
    pub over_rows : List (ObjectCursor S R)
    pub count : length over_rows ≡ run_count objects.runs + 2
    pub kind : All (IsOverRows (scratch_under objects)) over_rows
    pub rows : (lists : List (List ByteRow)) → HoldsRuns written well objects.runs lists
        → AllComeTo (ObjectsCome written left health pulls) over_rows
        (firsts_of (sorted_in objects.rows) ∷ others_of (sorted_in objects.rows) ∷ lists)
    pub adds : AddsStretches objects.stretches.items over_rows cursors
