-- Picking stored objects, where no identifier has two contents.
use Rattle.std.proofs.Common.{◌≡◌, ◌++◌, ℕ, zero, suc, List, [], ◌∷◌, map, Option, Some, Result, Ok, Err, inl, inr, refl}
use Rattle.std.proofs.Common.{sym, subst}
use Rattle.std.specs.Prelude.{IfErr}
use Rattle.hprof_devices.specs.declared.health.Health.{Health}
use Rattle.hprof_stream.specs.declared.limits.Limits.{Limits}
use Rattle.hprof_merge.specs.Rows.{ByteRow, Has}
use Rattle.hprof_merge.specs.Union.{AnyHas, IsUnion, rows_at}
use Rattle.hprof_merge.proofs.Unions.{back_has, either_has, first_has, front_has, union_apart}
use Rattle.hprof_runs.specs.declared.run_cut.RunCut.{RunCut}
use Rattle.hprof_runs.specs.declared.run_fault.RunFault.{RunFault}
use Rattle.hprof_runs.specs.declared.run_fault.RunFault.TheVariants as runs
use Rattle.hprof_runs.specs.RowsIn.{sorted_in}
use Rattle.hprof_runs.specs.RunCuts.{AreRunCuts, IsRunCut, all_rows}
use Rattle.hprof_runs.specs.Runs.{cuts_of}
use Rattle.hprof_runs.proofs.TwoPieces.{has_back, has_either, has_front}
use Rattle.hprof_objects.specs.declared.any_cut.AnyCut.{AnyCut}
use Rattle.hprof_objects.specs.declared.any_cut.AnyCut.TheVariants.{InPart, InRun}
use Rattle.hprof_objects.specs.declared.cut.Cut.{Cut}
use Rattle.hprof_objects.specs.declared.object_fault.ObjectFault.{ObjectFault}
use Rattle.hprof_objects.specs.declared.object_fault.ObjectFault.TheVariants as stops
use Rattle.hprof_objects.specs.declared.stored_objects.StoredObjects.{StoredObjects}
use Rattle.hprof_objects.specs.declared.stretch_fault.StretchFault.TheVariants as stretches
use Rattle.hprof_objects.specs.AnyCuts.{Among, Comes, TellsCut}
use Rattle.hprof_objects.specs.Cuts.{AreCuts, IsCutOf}
use Rattle.hprof_objects.specs.Giving.{AreHeld, IsNowhere, IsThere, PicksHeld, UnlessOfSink}
use Rattle.hprof_objects.specs.MergedObjects.{IfScratchFails, TellsChange}
use Rattle.hprof_objects.specs.PartsRead.{PartRead}
use Rattle.hprof_objects.specs.Picks.{Picks}
use Rattle.hprof_objects.specs.ReadAgain.{IsSameAt}
use Rattle.hprof_objects.specs.Searched.{StopsIn}
use Rattle.hprof_objects.specs.StoredObjects.{AreToldAgain, HoldsObjects, objects_of, scratch_under}
use Rattle.hprof_objects.proofs.LookedUp.{among_back, among_either, among_front}
use Rattle.hprof_objects.proofs.PickedFront.{picks_of}

-- ---- rows of lists

any_of_rows : (lists : List (List ByteRow)) (row : ByteRow) → Has (all_rows lists) row → AnyHas lists row
any_of_rows [] row has = absurd has
any_of_rows (rows ∷ lists) row has = elim (has_either rows (all_rows lists) row has) [
  | inl here ↦ (0, here)
  | inr behind ↦ let there = any_of_rows lists row behind in (suc there.0, there.1)
]

rows_of_any : (lists : List (List ByteRow)) (row : ByteRow) (place : ℕ) → Has (rows_at lists place) row → Has (all_rows lists) row
rows_of_any [] row place has = absurd has
rows_of_any (rows ∷ lists) row zero has = has_front rows (all_rows lists) row has
rows_of_any (rows ∷ lists) row (suc place) has = has_back rows (all_rows lists) row (rows_of_any lists row place has)

-- ---- the rows of cuts

module _ {S : Type 0} (written : S → Option (List ℕ)) (scratch : S) (limits : Limits) (told : List (Option (List ℕ))) where
  -- the cut has rows, all of which are among these
  record HasRows (cut : AnyCut) (all : List ByteRow) : Type 0 where
    rows : List ByteRow
    comes : Comes written scratch limits told cut rows
    only : (row : ByteRow) → Has rows row → Has all row

  -- one of the cuts has the row
  record IsInCut (cuts : List AnyCut) (row : ByteRow) : Type 0 where
    cut : AnyCut
    among : Among cuts cut
    rows : List ByteRow
    comes : Comes written scratch limits told cut rows
    has : Has rows row

  in_front : (cuts others : List AnyCut) (row : ByteRow) → IsInCut cuts row → IsInCut (cuts ++ others) row
  in_front cuts others row is =
      record { cut = is.cut; among = among_front cuts others is.cut is.among; rows = is.rows; comes = is.comes; has = is.has }

  in_back : (cuts others : List AnyCut) (row : ByteRow) → IsInCut others row → IsInCut (cuts ++ others) row
  in_back cuts others row is =
      record { cut = is.cut; among = among_back cuts others is.cut is.among; rows = is.rows; comes = is.comes; has = is.has }

  has_more : (cut : AnyCut) (rows all : List ByteRow) → HasRows cut all → HasRows cut (rows ++ all)
  has_more cut rows all it =
      record { rows = it.rows; comes = it.comes; only = λ row has. has_back rows all row (it.only row has) }

  module _ (reads : List PartRead) (same : (number : ℕ) → IsSameAt limits told reads number) where
    part_rows : (cuts : List Cut) (lists : List (List ByteRow)) → AreCuts limits reads cuts lists → (cut : AnyCut)
        → Among (map InPart cuts) cut → HasRows cut (all_rows lists)
    part_rows [] lists are cut among = absurd among
    part_rows (first ∷ cuts) [] are cut among = absurd are
    part_rows (first ∷ cuts) (rows ∷ lists) are cut (inl is) = record {
      rows = rows;
      comes = subst (λ (c : AnyCut). Comes written scratch limits told c rows) (sym is) (reads, are.0, same first.stretch.part);
      only = λ row has. has_front rows (all_rows lists) row has;
    }
    part_rows (first ∷ cuts) (rows ∷ lists) are cut (inr among) =
        has_more cut rows (all_rows lists) (part_rows cuts lists are.1 cut among)

    in_part : (cuts : List Cut) (lists : List (List ByteRow)) → AreCuts limits reads cuts lists → (row : ByteRow)
        → Has (all_rows lists) row → IsInCut (map InPart cuts) row
    in_part [] [] are row has = absurd has
    in_part [] (rows ∷ lists) are row has = absurd are
    in_part (cut ∷ cuts) [] are row has = absurd has
    in_part (cut ∷ cuts) (rows ∷ lists) are row has = elim (has_either rows (all_rows lists) row has) [
      | inl here ↦ record {
        cut = InPart cut;
        among = inl refl;
        rows = rows;
        comes = (reads, are.0, same cut.stretch.part);
        has = here;
      }
      | inr behind ↦
          let it = in_part cuts lists are.1 row behind in
          record { cut = it.cut; among = inr it.among; rows = it.rows; comes = it.comes; has = it.has }
    ]

  module _ (all : List ℕ) (tells : written scratch ≡ Some all) where
    run_rows : (cuts : List RunCut) (lists : List (List ByteRow)) → AreRunCuts all cuts lists → (cut : AnyCut)
        → Among (map InRun cuts) cut → HasRows cut (all_rows lists)
    run_rows [] lists are cut among = absurd among
    run_rows (first ∷ cuts) [] are cut among = absurd are
    run_rows (first ∷ cuts) (rows ∷ lists) are cut (inl is) = record {
      rows = rows;
      comes = subst (λ (c : AnyCut). Comes written scratch limits told c rows) (sym is) (all, tells, are.0);
      only = λ row has. has_front rows (all_rows lists) row has;
    }
    run_rows (first ∷ cuts) (rows ∷ lists) are cut (inr among) =
        has_more cut rows (all_rows lists) (run_rows cuts lists are.1 cut among)

    in_run : (cuts : List RunCut) (lists : List (List ByteRow)) → AreRunCuts all cuts lists → (row : ByteRow) → Has (all_rows lists) row
        → IsInCut (map InRun cuts) row
    in_run [] [] are row has = absurd has
    in_run [] (rows ∷ lists) are row has = absurd are
    in_run (cut ∷ cuts) [] are row has = absurd has
    in_run (cut ∷ cuts) (rows ∷ lists) are row has = elim (has_either rows (all_rows lists) row has) [
      | inl here ↦ record { cut = InRun cut; among = inl refl; rows = rows; comes = (all, tells, are.0); has = here }
      | inr behind ↦
          let it = in_run cuts lists are.1 row behind in
          record { cut = it.cut; among = inr it.among; rows = it.rows; comes = it.comes; has = it.has }
    ]

-- ---- the rows of stored objects

-- the cuts of the stretches, and those of the runs
abbrev pub all_cuts : {S : Type 0} → StoredObjects S → List AnyCut
all_cuts objects = map InPart objects.cuts.items ++ map InRun (cuts_of objects.runs)

module _ {S : Type 0} (written : S → Option (List ℕ)) (health : S → Health) (limits : Limits) (told : List (Option (List ℕ)))
    (objects : StoredObjects S) where
  abbrev scratch : S
  scratch = scratch_under objects

  module _ (reads : List PartRead) (again : AreToldAgain written health limits told reads objects) where
    abbrev holds : HoldsObjects written health limits reads objects
    holds = again.holds

    abbrev others : List (List ByteRow)
    others = holds.runs ++ holds.lists

    -- the rows of a cut are among those of the runs and the stretches
    cut_rows : (cut : AnyCut) → Among (all_cuts objects) cut
        → (rows : List ByteRow) × Comes written scratch limits told cut rows × ((row : ByteRow) → Has rows row → AnyHas others row)
    cut_rows cut among = elim (among_either (map InPart objects.cuts.items) (map InRun (cuts_of objects.runs)) cut among) [
      | inl there ↦
          let it = part_rows written scratch limits told reads again.same objects.cuts.items holds.cut.lists holds.cut.are cut there in (
            it.rows,
            it.comes,
            (λ row has. back_has holds.runs holds.lists row (any_of_rows holds.lists row
                (subst (λ (l : List ByteRow). Has l row) holds.cut.whole (it.only row has)))),
          )
      | inr there ↦
          let its = holds.are_runs in
          let it = run_rows written scratch limits told its.all its.told (cuts_of objects.runs) its.cut.lists its.cut.are cut there in (
            it.rows,
            it.comes,
            (λ row has.
                let any = any_of_rows holds.runs row (subst (λ (l : List ByteRow). Has l row) its.cut.whole (it.only row has)) in
                front_has holds.runs holds.lists row any.0 any.1),
          )
    ]

    -- each of their rows is in a cut
    in_cut : (row : ByteRow) → AnyHas others row → IsInCut written scratch limits told (all_cuts objects) row
    in_cut row has = elim (either_has holds.runs holds.lists row has.0 has.1) [
      | inl there ↦
          let its = holds.are_runs in
          in_back written scratch limits told (map InPart objects.cuts.items) (map InRun (cuts_of objects.runs)) row
          (in_run written scratch limits told its.all its.told (cuts_of objects.runs) its.cut.lists its.cut.are row
          (subst (λ (l : List ByteRow). Has l row) (sym its.cut.whole) (rows_of_any holds.runs row there.0 there.1)))
      | inr there ↦
          in_front written scratch limits told (map InPart objects.cuts.items) (map InRun (cuts_of objects.runs)) row
          (in_part written scratch limits told reads again.same objects.cuts.items holds.cut.lists holds.cut.are row
          (subst (λ (l : List ByteRow). Has l row) (sym holds.cut.whole) (rows_of_any holds.lists row there.0 there.1)))
    ]

    module _ (all : List ByteRow) (union : IsUnion (objects_of reads) all) where
      stored_in : (row : ByteRow) → AnyHas (sorted_in objects.rows ∷ others) row → Has all row
      stored_in row has = (union.same row).1 (holds.enough.only row has)

      pub are_held : AreHeld written scratch limits told objects.rows (all_cuts objects) all
      are_held = record { ascends = union.ascends; only = only; every = every }
        where
          only : (row : ByteRow) → IsThere written scratch limits told objects.rows (all_cuts objects) row → Has all row
          only row (inl has) = stored_in row (0, has)
          only row (inr lies) =
              let its = cut_rows lies.cut lies.among in
              let any = its.2 row (lies.lies its.0 its.1) in stored_in row (suc any.0, any.1)

          nowhere : (row : ByteRow) → AnyHas (sorted_in objects.rows ∷ others) row
              → IsNowhere written scratch limits told objects.rows (all_cuts objects) row.0 → ⊥
          nowhere row has none = elim (first_has (sorted_in objects.rows) others row has.0 has.1) [
            | inl here ↦ none.0 row.1 here
            | inr behind ↦ let it = in_cut row behind in none.1 it.cut it.among it.rows it.comes row.1 it.has
          ]

          every : (row : ByteRow) → Has all row → IsNowhere written scratch limits told objects.rows (all_cuts objects) row.0 → ⊥
          every row has none = elim (holds.enough.each row ((union.same row).0 has)) [
            | inl there ↦ nowhere row there none
            | inr two ↦ union_apart (objects_of reads) all row.0 union (record {
              one = two.one;
              other = two.other;
              has_one = holds.enough.only (row.0, two.one) two.has_one;
              has_other = holds.enough.only (row.0, two.other) two.has_other;
              differ = two.differ;
            })
          ]

      pub picks_agreed : {T G A : Type 0} (steps : T → ℕ → List ℕ → T → Type 0) (refuses : T → ℕ → List ℕ → G → T → Type 0)
          (wanted : List ℕ) (old new : T) (result : Result A (ObjectFault G)) → PicksHeld steps refuses wanted all result old new
          → Picks steps refuses wanted (objects_of reads) result old new
      picks_agreed steps refuses wanted old new (Ok done) picks =
          picks_of (objects_of reads) all union steps refuses wanted old new (Ok done) picks
      picks_agreed steps refuses wanted old new (Err stops.OutOfMemory) picks =
          picks_of (objects_of reads) all union steps refuses wanted old new {A = Unit {0}} (Err stops.OutOfMemory) picks
      picks_agreed steps refuses wanted old new (Err (stops.TwoContents key)) picks = absurd picks
      picks_agreed steps refuses wanted old new (Err (stops.Scratch fault)) picks =
          picks_of (objects_of reads) all union steps refuses wanted old new {A = Unit {0}} (Err stops.OutOfMemory) picks
      picks_agreed steps refuses wanted old new (Err (stops.Part part fault)) picks =
          picks_of (objects_of reads) all union steps refuses wanted old new {A = Unit {0}} (Err (stops.Part part fault)) picks
      picks_agreed steps refuses wanted old new (Err (stops.Sink fault)) picks =
          picks_of (objects_of reads) all union steps refuses wanted old new {A = Unit {0}} (Err (stops.Sink fault)) picks

  -- ---- what a stop tells

  run_of : (all : List ℕ) (cuts : List RunCut) (lists : List (List ByteRow)) → AreRunCuts all cuts lists → (cut : RunCut)
      → Among (map InRun cuts) (InRun cut) → (rows : List ByteRow) × IsRunCut all cut rows
  run_of all [] lists are cut among = absurd among
  run_of all (first ∷ cuts) [] are cut among = absurd are
  run_of all (first ∷ cuts) (rows ∷ lists) are cut (inl is) =
      let same : first ≡ cut = cc in (rows, subst (λ (c : RunCut). IsRunCut all c rows) same are.0)
  run_of all (first ∷ cuts) (rows ∷ lists) are cut (inr among) = run_of all cuts lists are.1 cut among

  part_of : (reads : List PartRead) (cuts : List Cut) (lists : List (List ByteRow)) → AreCuts limits reads cuts lists → (cut : Cut)
      → Among (map InPart cuts) (InPart cut) → (rows : List ByteRow) × IsCutOf limits reads cut rows
  part_of reads [] lists are cut among = absurd among
  part_of reads (first ∷ cuts) [] are cut among = absurd are
  part_of reads (first ∷ cuts) (rows ∷ lists) are cut (inl is) =
      let same : first ≡ cut = cc in (rows, subst (λ (c : Cut). IsCutOf limits reads c rows) same are.0)
  part_of reads (first ∷ cuts) (rows ∷ lists) are cut (inr among) = part_of reads cuts lists are.1 cut among

  not_in_run : (cuts : List RunCut) (cut : Cut) → Among (map InRun cuts) (InPart cut) → ⊥
  not_in_run [] cut among = among
  not_in_run (first ∷ cuts) cut (inl is) = absurd cc
  not_in_run (first ∷ cuts) cut (inr among) = not_in_run cuts cut among

  not_in_part : (cuts : List Cut) (cut : RunCut) → Among (map InPart cuts) (InRun cut) → ⊥
  not_in_part [] cut among = among
  not_in_part (first ∷ cuts) cut (inl is) = absurd cc
  not_in_part (first ∷ cuts) cut (inr among) = not_in_part cuts cut among

  module _ (G : Type 0) (unreadable : S → Type 0) where
    damaged : (cut : AnyCut) → Among (all_cuts objects) cut
        → TellsCut written scratch limits told {G = G} unreadable cut (stops.Scratch runs.Damaged) → (reads : List PartRead)
        → HoldsObjects written health limits reads objects → ⊥
    damaged (InPart cut) among tells reads held = tells
    damaged (InRun cut) among tells reads held =
        elim (among_either (map InPart objects.cuts.items) (map InRun (cuts_of objects.runs)) (InRun cut) among) [
          | inl there ↦ not_in_part objects.cuts.items cut there
          | inr there ↦
              let its = held.are_runs in
              let it = run_of its.all (cuts_of objects.runs) its.cut.lists its.cut.are cut there in tells.1 it.0 (its.all, its.told, it.1)
        ]

    changed : (cut : AnyCut) (part : ℕ) → Among (all_cuts objects) cut
        → TellsCut written scratch limits told {G = G} unreadable cut (stops.Part part stretches.Changed) → (reads : List PartRead)
        → HoldsObjects written health limits reads objects → IsSameAt limits told reads part → ⊥
    changed (InRun cut) part among tells reads held same = tells
    changed (InPart cut) part among tells reads held same =
        elim (among_either (map InPart objects.cuts.items) (map InRun (cuts_of objects.runs)) (InPart cut) among) [
          | inr there ↦ not_in_run (cuts_of objects.runs) cut there
          | inl there ↦
              let it = part_of reads objects.cuts.items held.cut.lists held.cut.are cut there in
              tells.1 it.0 (reads, it.1, subst (IsSameAt limits told reads) tells.0 same)
        ]

    tells_change : (stop : ObjectFault G) → UnlessOfSink (StopsIn written scratch limits told unreadable (all_cuts objects)) stop
        → TellsChange written health limits told objects stop
    tells_change stops.OutOfMemory stopped = tt
    tells_change (stops.TwoContents key) stopped = tt
    tells_change (stops.Scratch runs.OutOfMemory) stopped = tt
    tells_change (stops.Scratch runs.Read) stopped = tt
    tells_change (stops.Scratch runs.Damaged) stopped = damaged stopped.cut stopped.among stopped.tells
    tells_change (stops.Part part stretches.OutOfMemory) stopped = tt
    tells_change (stops.Part part stretches.Read) stopped = tt
    tells_change (stops.Part part stretches.Changed) stopped = changed stopped.cut part stopped.among stopped.tells
    tells_change (stops.Sink fault) stopped = tt

    pub agreed_change : {A : Type 0} (result : Result A (ObjectFault G))
        → IfErr result (UnlessOfSink (StopsIn written scratch limits told unreadable (all_cuts objects)))
        → IfErr result (TellsChange written health limits told objects)
    agreed_change (Ok done) stopped = tt
    agreed_change (Err stop) stopped = tells_change stop stopped

    scratch_read : (cut : AnyCut) (fault : RunFault) → TellsCut written scratch limits told {G = G} unreadable cut (stops.Scratch fault)
        → IfScratchFails {G = G} (stops.Scratch fault) (unreadable scratch)
    scratch_read (InPart cut) fault tells = absurd tells
    scratch_read (InRun cut) fault tells = tells.0

    scratch_fails : (stop : ObjectFault G) → UnlessOfSink (StopsIn written scratch limits told unreadable (all_cuts objects)) stop
        → IfScratchFails stop (unreadable scratch)
    scratch_fails stops.OutOfMemory stopped = tt
    scratch_fails (stops.TwoContents key) stopped = tt
    scratch_fails (stops.Scratch fault) stopped = scratch_read stopped.cut fault stopped.tells
    scratch_fails (stops.Part part fault) stopped = tt
    scratch_fails (stops.Sink fault) stopped = tt

    pub agreed_reads : {A : Type 0} (result : Result A (ObjectFault G))
        → IfErr result (UnlessOfSink (StopsIn written scratch limits told unreadable (all_cuts objects)))
        → IfErr result (λ stop. IfScratchFails stop (unreadable scratch))
    agreed_reads (Ok done) stopped = tt
    agreed_reads (Err stop) stopped = scratch_fails stop stopped
