-- A merge into a sink that passes the wanted rows on.
use Rattle.std.proofs.Common.{◌≡◌, ◌++◌, ℕ, List, [], ◌∷◌, Result, Ok, Err}
use Rattle.std.proofs.Common.{refl, sym, ap, subst, ◌∙◌, arith, inl, inr}
use Rattle.std.specs.Prelude.{OnOk}
use Rattle.hprof_merge.specs.Merging.{TakesBelow, RefusesRow}
use Rattle.hprof_merge.specs.Rows.{ByteRow, Has, IsAscending}
use Rattle.hprof_merge.specs.Run.{Runs}
use Rattle.hprof_merge.specs.Union.{IsUnion}
use Rattle.hprof_merge.proofs.Lists.{append-last}
use Rattle.hprof_runs.proofs.TwoPieces.{ascends_front}
use Rattle.hprof_objects.specs.declared.object_fault.ObjectFault.{ObjectFault}
use Rattle.hprof_objects.specs.declared.object_fault.ObjectFault.TheVariants as stops
use Rattle.hprof_objects.specs.declared.picking_sink.PickingSink.{PickingSink}
use Rattle.hprof_objects.specs.MergedObjects.{MergesLists, UnlessRefused}
use Rattle.hprof_objects.specs.Picks.{Picks, PicksBelow, RefusesWanted}
use Rattle.hprof_objects.specs.PickingSink.{IsOver, IsWell, PicksRow, RefusesPicked, sink_under, wanted_under}
use Rattle.hprof_objects.specs.Wanted.{is_among, wanted_rows}
use Rattle.hprof_objects.proofs.PickedRows.{wanted_both, wanted_one}

module _ {T G : Type 0} (steps : T → ℕ → List ℕ → T → Type 0) (refuses : T → ℕ → List ℕ → G → T → Type 0) where
  -- ---- the sink under it stays the same one

  over_run : (old : PickingSink T) (rows : List ByteRow) (new : PickingSink T) → Runs (PicksRow steps) old rows new → IsOver new old.sink
  over_run old [] new run = ap (λ (it : PickingSink T). it.sink.ghost_name) (sym run)
  over_run old (row ∷ rows) new run = over_run run.0 rows new run.2 ∙ run.1.over

  pub over_lists : {A : Type 0} (lists : List (List ByteRow)) (result : Result A (ObjectFault G)) (old new : PickingSink T)
      → MergesLists (PicksRow steps) (RefusesPicked refuses) lists result old new → IsOver new old.sink
  over_lists lists (Ok done) old new taken = over_run old taken.all new taken.run
  over_lists lists (Err stops.OutOfMemory) old new front = over_run old front.1.front new front.1.run
  over_lists lists (Err (stops.TwoContents key)) old new front = over_run old front.1.front new front.1.run
  over_lists lists (Err (stops.Scratch fault)) old new front = over_run old front.1.front new front.1.run
  over_lists lists (Err (stops.Part part fault)) old new front = over_run old front.1.front new front.1.run
  over_lists lists (Err (stops.Sink fault)) old new refusal =
      let it = refusal.1 in it.refused.over ∙ over_run old it.front it.mid it.run

  -- ---- the rows that it passed on

  module _ (wanted : List ℕ) where
    passed_on : (old : PickingSink T) (rows : List ByteRow) (new : PickingSink T) → IsAscending rows
        → ((row : ByteRow) → Has rows row → is_among (wanted_under old) row.0 ≡ is_among wanted row.0)
        → Runs (PicksRow steps) old rows new → Runs steps (sink_under old) (wanted_rows wanted rows) (sink_under new)
    passed_on old [] new up same run = ap (λ (it : PickingSink T). sink_under it) run
    passed_on old (row ∷ rows) new up same run =
        let mid = run.0 in
        let step = run.1 in
        wanted_both steps wanted (sink_under old) (sink_under mid) (sink_under new) (row ∷ []) rows
        (wanted_one steps wanted (is_among (wanted_under old) row.0) (sink_under old) row.0 row.1 (sink_under mid) (same row (inl refl))
        step.took)
        (passed_on mid rows new up.1
        (λ other has. let lt = up.0 other has in step.same other.0 (omega (arith, lt)) ∙ same other (inr has)) run.2)

    -- behind them the same keys are wanted
    wanted_still : (old : PickingSink T) (rows : List ByteRow) (new : PickingSink T) (last : ByteRow) → IsAscending (rows ++ last ∷ [])
        → Runs (PicksRow steps) old rows new → is_among (wanted_under new) last.0 ≡ is_among (wanted_under old) last.0
    wanted_still old [] new last up run = ap (λ (it : PickingSink T). is_among (wanted_under it) last.0) (sym run)
    wanted_still old (row ∷ rows) new last up run =
        let lt = up.0 last (append-last rows last) in
        wanted_still run.0 rows new last up.1 run.2 ∙ run.1.same last.0 (omega (arith, lt))

    module _ (lists : List (List ByteRow)) (old new : PickingSink T) (begins : wanted_under old ≡ wanted) where
      same_keys : (key : ℕ) → is_among (wanted_under old) key ≡ is_among wanted key
      same_keys key = ap (λ (l : List ℕ). is_among l key) begins

      below : (bound : ℕ) → TakesBelow (PicksRow steps) lists bound old new
          → PicksBelow steps wanted lists bound (sink_under old) (sink_under new)
      below bound taken = record {
        front = taken.front;
        union = taken.union;
        run = passed_on old taken.front new taken.union.ascends (λ row has. same_keys row.0) taken.run;
      }

      refused : (row : ByteRow) (fault : G) → RefusesRow (PicksRow steps) (RefusesPicked refuses) lists row fault old new
          → RefusesWanted steps refuses wanted lists row fault (sink_under old) (sink_under new)
      refused row fault it = record {
        front = it.front;
        union = it.union;
        mid = sink_under it.mid;
        run = passed_on old it.front it.mid (ascends_front it.front (row ∷ []) it.union.ascends) (λ other has. same_keys other.0) it.run;
        is_wanted = sym (wanted_still old it.front it.mid row it.union.ascends it.run ∙ same_keys row.0) ∙ it.refused.wanted;
        refused = it.refused.refused;
      }

      pub picks_merged : {A : Type 0} (result : Result A (ObjectFault G))
          → MergesLists (PicksRow steps) (RefusesPicked refuses) lists result old new
          → Picks steps refuses wanted lists result (sink_under old) (sink_under new)
      picks_merged (Ok done) taken = record {
        all = taken.all;
        union = taken.union;
        run = passed_on old taken.all new taken.union.ascends (λ row has. same_keys row.0) taken.run;
      }
      picks_merged (Err stops.OutOfMemory) front = (front.0, below front.0 front.1)
      picks_merged (Err (stops.TwoContents key)) front = (front.0, below key front.1)
      picks_merged (Err (stops.Scratch fault)) front = (front.0, below front.0 front.1)
      picks_merged (Err (stops.Part part fault)) front = (front.0, below front.0 front.1)
      picks_merged (Err (stops.Sink fault)) it = (it.0, refused it.0 fault it.1)

      -- from one sink to another
      pub merged_picks : (was now : T) → sink_under old ≡ was → now ≡ sink_under new → {A : Type 0} (result : Result A (ObjectFault G))
          → MergesLists (PicksRow steps) (RefusesPicked refuses) lists result old new → Picks steps refuses wanted lists result was now
      merged_picks was now first last result merges =
          subst (λ (t : T). Picks steps refuses wanted lists result was t) (sym last)
          (subst (λ (t : T). Picks steps refuses wanted lists result t (sink_under new)) first (picks_merged result merges))

-- lists have a union if a merge of them came to its end
pub merged_union : {A T G I : Type 0} (steps : T → ℕ → List ℕ → T → Type 0) (refuses : T → ℕ → List ℕ → G → T → Type 0) (old new : T)
    (Holds : I → Type 0) (lists : I → List (List ByteRow)) (result : Result A (ObjectFault G))
    → ((it : I) → Holds it → MergesLists steps refuses (lists it) result old new)
    → OnOk result ((it : I) → Holds it → (rows : List ByteRow) × IsUnion (lists it) rows)
merged_union steps refuses old new Holds lists (Ok done) merges = λ it holds. let taken = merges it holds in (taken.all, taken.union)
merged_union steps refuses old new Holds lists (Err stop) merges = tt

-- the sink under it may be called, unless it refused a row
well_under : {A T G : Type 0} (well : T → Type 0) (it : PickingSink T) (result : Result A (ObjectFault G))
    → UnlessRefused (IsWell well it) result → UnlessRefused (well (sink_under it)) result
well_under well it (Ok done) is = is.1
well_under well it (Err stops.OutOfMemory) is = is.1
well_under well it (Err (stops.TwoContents key)) is = is.1
well_under well it (Err (stops.Scratch fault)) is = is.1
well_under well it (Err (stops.Part part fault)) is = is.1
well_under well it (Err (stops.Sink fault)) is = tt

pub well_merged : {A T G : Type 0} (well : T → Type 0) (it : PickingSink T) (now : T) → now ≡ sink_under it
    → (result : Result A (ObjectFault G)) → UnlessRefused (IsWell well it) result → UnlessRefused (well now) result
well_merged well it now last result is =
    subst (λ t. UnlessRefused (well t) result) (sym last) (well_under well it result is)
