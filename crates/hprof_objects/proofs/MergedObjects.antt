-- A merge of cursors over stored objects.
use Rattle.std.proofs.Common.{◌≡◌, ◌+◌, ◌-◌, ◌++◌, ℕ, List, [], ◌∷◌, length, map, Option, slice_index_or, sym, subst, arith}
use Rattle.std.specs.Prelude.{All}
use Rattle.std.specs.declared.convert.Infallible.{Infallible}
use Rattle.hprof_devices.specs.declared.health.Health.{Health}
use Rattle.hprof_stream.specs.declared.limits.Limits.{Limits}
use Rattle.hprof_merge.specs.declared.merge_fault.MergeFault.{MergeFault}
use Rattle.hprof_merge.specs.declared.merge_fault.MergeFault.TheVariants as stops
use Rattle.hprof_merge.specs.declared.one_of.OneOf.{OneOf}
use Rattle.hprof_merge.specs.declared.one_of.OneOf.TheVariants.{First, Second}
use Rattle.hprof_merge.specs.Merging.{TakesAll}
use Rattle.hprof_merge.specs.Rows.{ByteRow}
use Rattle.hprof_merge.specs.Showing.{AllShow, all_shown}
use Rattle.hprof_merge.specs.Stopping.{LeavesCursors, MergesAll, StopsMerging}
use Rattle.hprof_merge.specs.TwoContents.{HasEnoughOf}
use Rattle.hprof_merge.proofs.Unions.{enough_least}
use Rattle.hprof_runs.specs.declared.run_fault.RunFault.{RunFault}
use Rattle.hprof_runs.specs.declared.run_fault.RunFault.TheVariants as runs
use Rattle.hprof_runs.specs.AnyRows.{IsOverRows}
use Rattle.hprof_runs.specs.Known.{AllComeTo}
use Rattle.hprof_runs.specs.Picked.{firsts_of, others_of}
use Rattle.hprof_runs.specs.RowsIn.{sorted_in}
use Rattle.hprof_runs.specs.Runs.{run_count}
use Rattle.hprof_runs.proofs.AllRows.{all_come, below_come, least_come}
use Rattle.hprof_runs.proofs.Lying.{sorted_rows}
use Rattle.hprof_objects.specs.declared.stored_objects.StoredObjects.{StoredObjects}
use Rattle.hprof_objects.specs.declared.stretch.Stretch.{Stretch}
use Rattle.hprof_objects.specs.declared.stretch_cursor.StretchCursor.{StretchCursor}
use Rattle.hprof_objects.specs.declared.stretch_fault.StretchFault.{StretchFault}
use Rattle.hprof_objects.specs.declared.stretch_fault.StretchFault.TheVariants as stretches
use Rattle.hprof_objects.specs.MergedObjects.{IfScratchFails, StopsWithin, TellsChange}
use Rattle.hprof_objects.specs.ObjectCursors.{AllOpen, ObjectCursor, ObjectsCome, OpensObjects, object_stop, part_of, part_under}
use Rattle.hprof_objects.specs.PartsRead.{PartRead}
use Rattle.hprof_objects.specs.ReadAgain.{IsSameAt}
use Rattle.hprof_objects.specs.StoredObjects.{AreToldAgain, HoldsObjects, objects_of, scratch_under}
use Rattle.hprof_objects.specs.Stretches.{AreStretches}
use Rattle.hprof_objects.proofs.FaultsAt.{fails, goes, its_scratch, known, never_changed, never_damaged, shown}
use Rattle.hprof_objects.proofs.Stops.{stops_within, takes_all}
use Rattle.hprof_objects.proofs.Stored.{enough_below, merged_enough}

-- cursors one behind the other
come_both : {C : Type 0} (comes_to : C → List ByteRow → Type 0) (cursors more : List C) (lists others : List (List ByteRow))
    → AllComeTo comes_to cursors lists → AllComeTo comes_to more others → AllComeTo comes_to (cursors ++ more) (lists ++ others)
come_both comes_to [] more [] others come behind = behind
come_both comes_to [] more (rows ∷ lists) others come behind = absurd come
come_both comes_to (it ∷ cursors) more [] others come behind = absurd come
come_both comes_to (it ∷ cursors) more (rows ∷ lists) others come behind =
    (come.0, come_both comes_to cursors more lists others come.1 behind)

first_comes : {C : Type 0} (comes_to : C → List ByteRow → Type 0) (cursors : List C) (rows : List ByteRow) (lists : List (List ByteRow))
    → AllComeTo comes_to cursors (rows ∷ lists) → (it : C) × (list : List ByteRow) × comes_to it list
first_comes comes_to [] rows lists come = absurd come
first_comes comes_to (it ∷ cursors) rows lists come = (it, rows, come.0)

module _ {S R : Type 0} (written : S → Option (List ℕ)) (well : S → Health) (unreadable : S → Type 0) (left : R → Option (List ℕ))
    (health : R → Health) (pulls : R → ℕ) (limits : Limits) (told : List (Option (List ℕ))) where
  -- cursors over stretches of parts that are the same
  opened_come : (list : List Stretch) (opened : List (StretchCursor R)) (reads : List PartRead) (lists : List (List ByteRow))
      → AllOpen left health pulls limits told list opened → AreStretches limits reads list lists
      → ((number : ℕ) → IsSameAt limits told reads number)
      → AllComeTo (ObjectsCome written left health pulls) (map Second opened) lists
  opened_come [] [] reads [] each are same = tt
  opened_come [] [] reads (rows ∷ lists) each are same = absurd are
  opened_come [] (it ∷ opened) reads lists each are same = absurd each
  opened_come (one ∷ list) [] reads lists each are same = absurd each
  opened_come (one ∷ list) (it ∷ opened) reads [] each are same = absurd are
  opened_come (one ∷ list) (it ∷ opened) reads (rows ∷ lists) each are same =
      ((limits.max_reads, each.0 reads rows are.0 (same one.part)), opened_come list opened reads lists each.1 are.1 same)

  first_over : (scratch : S) (over_rows : List (ObjectCursor S R)) (count : ℕ) → length over_rows ≡ count + 2
      → All (IsOverRows scratch) over_rows → (it : ObjectCursor S R) × IsOverRows scratch it
  first_over scratch [] count len kind = absurd (omega (arith, len))
  first_over scratch (it ∷ over_rows) count len kind = (it, kind 0 it (omega arith))

  module _ (objects : StoredObjects S) (cursors : List (ObjectCursor S R))
      (opens : OpensObjects left health pulls limits told written well objects cursors) where
    -- the lists to which the cursors come
    abbrev merged_lists : (reads : List PartRead) → HoldsObjects written well limits reads objects → List (List ByteRow)
    merged_lists reads holds =
        firsts_of (sorted_in objects.rows) ∷ others_of (sorted_in objects.rows) ∷ (holds.runs ++ holds.lists)

    all_known : (reads : List PartRead) (again : AreToldAgain written well limits told reads objects)
        → AllComeTo (ObjectsCome written left health pulls) cursors (merged_lists reads again.holds)
    all_known reads again =
        let holds = again.holds in
        let sorted = sorted_in objects.rows in
        subst (λ (l : List (ObjectCursor S R)). AllComeTo (ObjectsCome written left health pulls) l (merged_lists reads holds))
        (sym opens.adds.are)
        (come_both (ObjectsCome written left health pulls) opens.over_rows (map Second opens.adds.opened)
        (firsts_of sorted ∷ others_of sorted ∷ holds.runs) holds.lists (opens.rows holds.runs holds.are_runs)
        (opened_come objects.stretches.items opens.adds.opened reads holds.lists opens.adds.each holds.are_stretches again.same))

    all_enough : (reads : List PartRead) (holds : HoldsObjects written well limits reads objects)
        → HasEnoughOf (objects_of reads) (merged_lists reads holds)
    all_enough reads holds =
        let rows = objects.rows in
        merged_enough (objects_of reads) (sorted_in rows) (holds.runs ++ holds.lists)
        (sorted_rows rows.bytes.items rows.places.items rows.sorted) holds.enough

    -- ---- the end

    pub merged_all : {T : Type 0} (steps : T → ℕ → List ℕ → T → Type 0) (new : List (ObjectCursor S R)) (old_sink new_sink : T)
        → MergesAll (shown written unreadable left health pulls) (goes written unreadable left health pulls) steps cursors new old_sink
        new_sink
        → (reads : List PartRead) → AreToldAgain written well limits told reads objects
        → TakesAll steps (objects_of reads) old_sink new_sink
    merged_all steps new old_sink new_sink merges reads again =
        let lists = merged_lists reads again.holds in
        let same : merges.came ≡ lists =
        all_come (shown written unreadable left health pulls) (goes written unreadable left health pulls)
        (ObjectsCome written left health pulls) (known written unreadable left health pulls) cursors new lists merges.came
        (all_known reads again) merges.shows merges.ended in
        takes_all steps (objects_of reads) lists (all_enough reads again.holds) old_sink new_sink
        (subst (λ (l : List (List ByteRow)). TakesAll steps l old_sink new_sink) same merges.taken)

    -- ---- a stop

    module _ {T G : Type 0} (steps : T → ℕ → List ℕ → T → Type 0) (refuses : T → ℕ → List ℕ → G → T → Type 0)
        (new : List (ObjectCursor S R)) (stop : MergeFault (OneOf (OneOf (OneOf Infallible Infallible) RunFault) StretchFault) G)
        (old_sink new_sink : T)
        (stopped : StopsMerging (shown written unreadable left health pulls) (goes written unreadable left health pulls) steps
        (fails written unreadable left health pulls) refuses cursors new stop old_sink new_sink) where
      pub stopped_some : (lists : List (List ByteRow))
          × StopsWithin steps refuses lists (object_stop (part_under objects) stop) old_sink new_sink
      stopped_some =
          let now = all_shown (shown written unreadable left health pulls) stopped.mid in
          let lists = stopped.came ++ now in (
            lists,
            stops_within steps refuses stopped.came now lists old_sink new_sink (part_under objects) (λ key low is. is)
                (λ key bound front low small union. union) stop stopped.stops,
          )

      pub stopped_objects : (reads : List PartRead) → AreToldAgain written well limits told reads objects
          → StopsWithin steps refuses (objects_of reads) (object_stop (part_under objects) stop) old_sink new_sink
      stopped_objects reads again =
          let now = all_shown (shown written unreadable left health pulls) stopped.mid in
          let lists = merged_lists reads again.holds in
          let come = all_known reads again in
          let enough = all_enough reads again.holds in
          stops_within steps refuses stopped.came now (objects_of reads) old_sink new_sink (part_under objects)
          (λ key low is. (enough_least (objects_of reads) lists enough key).1
          (least_come (shown written unreadable left health pulls) (goes written unreadable left health pulls)
          (ObjectsCome written left health pulls) (known written unreadable left health pulls) cursors stopped.mid lists stopped.came key
          come stopped.shows low is))
          (λ key bound front low small union. enough_below (objects_of reads) lists enough bound front
          (below_come (shown written unreadable left health pulls) (goes written unreadable left health pulls)
          (ObjectsCome written left health pulls) (known written unreadable left health pulls) cursors stopped.mid lists stopped.came key
          come stopped.shows low bound front small union)) stop stopped.stops

      shows_over : AllShow (shown written unreadable left health pulls) (goes written unreadable left health pulls)
          (opens.over_rows ++ map Second opens.adds.opened) stopped.mid stopped.came
      shows_over =
          subst (λ (l : List (ObjectCursor S R)). AllShow (shown written unreadable left health pulls)
          (goes written unreadable left health pulls) l stopped.mid stopped.came) opens.adds.are stopped.shows

      damage : (place : ℕ) (next : ObjectCursor S R)
          → ((d : ObjectCursor S R) → fails written unreadable left health pulls (slice_index_or stopped.mid place d)
          (First (Second runs.Damaged)) next)
          → (reads : List PartRead) → HoldsObjects written well limits reads objects → ⊥
      damage place next failed reads holds =
          let sorted = sorted_in objects.rows in
          let come = opens.rows holds.runs holds.are_runs in
          let d = first_comes (ObjectsCome written left health pulls) opens.over_rows (firsts_of sorted) (others_of sorted ∷ holds.runs)
          come in
          never_damaged written unreadable left health pulls opens.over_rows (firsts_of sorted ∷ others_of sorted ∷ holds.runs)
          opens.adds.opened stopped.mid stopped.came place d.0 next come (d.1, d.2) shows_over (failed d.0)

      change : (place : ℕ) (next : ObjectCursor S R)
          → ((d : ObjectCursor S R) → fails written unreadable left health pulls (slice_index_or stopped.mid place d)
          (Second stretches.Changed) next)
          → (reads : List PartRead) → HoldsObjects written well limits reads objects
          → IsSameAt limits told reads (part_under objects place) → ⊥
      change place next failed reads holds same =
          let d = first_over (scratch_under objects) opens.over_rows (run_count objects.runs) opens.count opens.kind in
          let list = objects.stretches.items in
          never_changed written unreadable left health pulls (scratch_under objects) limits told opens.over_rows list opens.adds.opened
          stopped.mid stopped.came place
          d.0 next opens.kind opens.adds.each d.1 shows_over (failed d.0) reads holds.lists holds.are_stretches
          (subst (λ (n : ℕ). IsSameAt limits told reads (part_of list (place - n))) (sym opens.count) same)

      read : (place : ℕ) (next : ObjectCursor S R)
          → ((d : ObjectCursor S R) → fails written unreadable left health pulls (slice_index_or stopped.mid place d)
          (First (Second runs.Read)) next) → unreadable (scratch_under objects)
      read place next failed =
          let d = first_over (scratch_under objects) opens.over_rows (run_count objects.runs) opens.count opens.kind in
          its_scratch written unreadable left health pulls (scratch_under objects) limits told opens.over_rows objects.stretches.items
          opens.adds.opened stopped.mid stopped.came place d.0 next opens.kind opens.adds.each d.1 shows_over (failed d.0)

    -- ---- what a fault tells

    tells : {G : Type 0} (stop : MergeFault (OneOf (OneOf (OneOf Infallible Infallible) RunFault) StretchFault) G)
        (mid new : List (ObjectCursor S R))
        → LeavesCursors (fails written unreadable left health pulls) stop mid new
        → ((place : ℕ) (next : ObjectCursor S R)
        → ((d : ObjectCursor S R) → fails written unreadable left health pulls (slice_index_or mid place d)
        (First (Second runs.Damaged)) next)
        → (reads : List PartRead) → HoldsObjects written well limits reads objects → ⊥)
        → ((place : ℕ) (next : ObjectCursor S R)
        → ((d : ObjectCursor S R) → fails written unreadable left health pulls (slice_index_or mid place d)
        (Second stretches.Changed) next)
        → (reads : List PartRead) → HoldsObjects written well limits reads objects
        → IsSameAt limits told reads (part_under objects place) → ⊥)
        → TellsChange written well limits told objects (object_stop (part_under objects) stop)
    tells stops.OutOfMemory mid new leaves damaged changed = tt
    tells (stops.TwoContents key) mid new leaves damaged changed = tt
    tells (stops.Sink fault) mid new leaves damaged changed = tt
    tells (stops.Cursor place (First (First never))) mid new leaves damaged changed = tt
    tells (stops.Cursor place (First (Second runs.OutOfMemory))) mid new leaves damaged changed = tt
    tells (stops.Cursor place (First (Second runs.Read))) mid new leaves damaged changed = tt
    tells (stops.Cursor place (First (Second runs.Damaged))) mid new leaves damaged changed = damaged place leaves.next leaves.failed
    tells (stops.Cursor place (Second stretches.OutOfMemory)) mid new leaves damaged changed = tt
    tells (stops.Cursor place (Second stretches.Read)) mid new leaves damaged changed = tt
    tells (stops.Cursor place (Second stretches.Changed)) mid new leaves damaged changed = changed place leaves.next leaves.failed

    pub stopped_tells : {T G : Type 0} (steps : T → ℕ → List ℕ → T → Type 0) (refuses : T → ℕ → List ℕ → G → T → Type 0)
        (new : List (ObjectCursor S R)) (stop : MergeFault (OneOf (OneOf (OneOf Infallible Infallible) RunFault) StretchFault) G)
        (old_sink new_sink : T)
        → StopsMerging (shown written unreadable left health pulls) (goes written unreadable left health pulls) steps
        (fails written unreadable left health pulls) refuses cursors new stop old_sink new_sink
        → TellsChange written well limits told objects (object_stop (part_under objects) stop)
    stopped_tells steps refuses new stop old_sink new_sink stopped =
        tells stop stopped.mid new stopped.leaves (damage steps refuses new stop old_sink new_sink stopped)
        (change steps refuses new stop old_sink new_sink stopped)

    reads_fail : {G : Type 0} (stop : MergeFault (OneOf (OneOf (OneOf Infallible Infallible) RunFault) StretchFault) G)
        (mid new : List (ObjectCursor S R))
        → LeavesCursors (fails written unreadable left health pulls) stop mid new
        → ((place : ℕ) (next : ObjectCursor S R)
        → ((d : ObjectCursor S R) → fails written unreadable left health pulls (slice_index_or mid place d)
        (First (Second runs.Read)) next) → unreadable (scratch_under objects))
        → IfScratchFails (object_stop (part_under objects) stop) (unreadable (scratch_under objects))
    reads_fail stops.OutOfMemory mid new leaves one = tt
    reads_fail (stops.TwoContents key) mid new leaves one = tt
    reads_fail (stops.Sink fault) mid new leaves one = tt
    reads_fail (stops.Cursor place (First (First never))) mid new leaves one = tt
    reads_fail (stops.Cursor place (First (Second runs.OutOfMemory))) mid new leaves one = tt
    reads_fail (stops.Cursor place (First (Second runs.Read))) mid new leaves one = one place leaves.next leaves.failed
    reads_fail (stops.Cursor place (First (Second runs.Damaged))) mid new leaves one = tt
    reads_fail (stops.Cursor place (Second stretches.OutOfMemory)) mid new leaves one = tt
    reads_fail (stops.Cursor place (Second stretches.Read)) mid new leaves one = tt
    reads_fail (stops.Cursor place (Second stretches.Changed)) mid new leaves one = tt

    pub stopped_reads : {T G : Type 0} (steps : T → ℕ → List ℕ → T → Type 0) (refuses : T → ℕ → List ℕ → G → T → Type 0)
        (new : List (ObjectCursor S R)) (stop : MergeFault (OneOf (OneOf (OneOf Infallible Infallible) RunFault) StretchFault) G)
        (old_sink new_sink : T)
        → StopsMerging (shown written unreadable left health pulls) (goes written unreadable left health pulls) steps
        (fails written unreadable left health pulls) refuses cursors new stop old_sink new_sink
        → IfScratchFails (object_stop (part_under objects) stop) (unreadable (scratch_under objects))
    stopped_reads steps refuses new stop old_sink new_sink stopped =
        reads_fail stop stopped.mid new stopped.leaves (read steps refuses new stop old_sink new_sink stopped)
