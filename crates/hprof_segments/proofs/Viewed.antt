-- A merge into a sink, seen as what a part of the sink does.
use Rattle.std.proofs.Common.{ℕ, ◌+◌, inl, inr, List, [], ◌∷◌, Option, ap}
use Rattle.hprof_merge.specs.declared.merge_fault.MergeFault.{MergeFault}
use Rattle.hprof_merge.specs.declared.merge_fault.MergeFault.TheVariants.{OutOfMemory, TwoContents, Cursor, Sink}
use Rattle.hprof_merge.specs.Rows.{ByteRow}
use Rattle.hprof_merge.specs.Run.{Runs}
use Rattle.hprof_merge.specs.Merging.{TakesAll, TakesBelow}
use Rattle.hprof_merge.specs.Stopping.{MergesAll, TakesUpTo, StopsBecause, StopsMerging}

module _ {T U : Type 0} (view : T → U) (steps : T → ℕ → List ℕ → T → Type 0) (others : U → ℕ → List ℕ → U → Type 0)
    (each : (old : T) (key : ℕ) (bytes : List ℕ) (new : T) → steps old key bytes new → others (view old) key bytes (view new)) where
  -- a run
  pub run_viewed : (old : T) (rows : List ByteRow) (new : T) → Runs steps old rows new → Runs others (view old) rows (view new)
  run_viewed old [] new run = ap view run
  run_viewed old (row ∷ rows) new run = (view run.0, each old row.0 row.1 run.0 run.1, run_viewed run.0 rows new run.2)

  all_viewed : (lists : List (List ByteRow)) (old new : T) → TakesAll steps lists old new → TakesAll others lists (view old) (view new)
  all_viewed lists old new taken = record { all = taken.all; union = taken.union; run = run_viewed old taken.all new taken.run }

  below_viewed : (lists : List (List ByteRow)) (bound : ℕ) (old new : T) → TakesBelow steps lists bound old new
      → TakesBelow others lists bound (view old) (view new)
  below_viewed lists bound old new taken =
      record { front = taken.front; union = taken.union; run = run_viewed old taken.front new taken.run }

  up_to_viewed : (lists : List (List ByteRow)) (key : ℕ) (old new : T) → TakesUpTo steps lists key old new
      → TakesUpTo others lists key (view old) (view new)
  up_to_viewed lists key old new taken =
      elim taken [
        | inl below ↦ inl (below_viewed lists key old new below)
        | inr below ↦ inr (below_viewed lists (key + 1) old new below)
      ]

  -- a merge up to its end
  pub merge_viewed : {C : Type 0} (shown : C → Option ByteRow) (goes : C → C → Type 0) (old new : List C) (sink after : T)
      → MergesAll shown goes steps old new sink after → MergesAll shown goes others old new (view sink) (view after)
  merge_viewed shown goes old new sink after merged = record {
    came = merged.came;
    shows = merged.shows;
    ended = merged.ended;
    taken = all_viewed merged.came sink after merged.taken;
  }

  module _ {G : Type 0} (refuses : T → ℕ → List ℕ → G → T → Type 0) (refused : U → ℕ → List ℕ → G → U → Type 0)
      (each_too : (old : T) (key : ℕ) (bytes : List ℕ) (fault : G) (new : T) → refuses old key bytes fault new
      → refused (view old) key bytes fault (view new)) where
    because_viewed : {F : Type 0} (came now : List (List ByteRow)) (stop : MergeFault F G) (old new : T)
        → StopsBecause steps refuses came now stop old new → StopsBecause others refused came now stop (view old) (view new)
    because_viewed came now OutOfMemory old new because = (because.0, ap view because.1)
    because_viewed came now (TwoContents key) old new because =
        (because.0, because.1, below_viewed _ key old new because.2)
    because_viewed came now (Cursor place fault) old new because =
        (because.0, because.1, because.2, up_to_viewed _ because.0 old new because.3)
    because_viewed came now (Sink fault) old new because =
        let row = because.0 in
        let refusal = because.2 in (
          row,
          because.1,
          record {
            front = refusal.front;
            union = refusal.union;
            mid = view refusal.mid;
            run = run_viewed old refusal.front refusal.mid refusal.run;
            refused = each_too refusal.mid row.0 row.1 fault new refusal.refused;
          },
        )

    -- a merge that stopped
    pub stop_viewed : {C F : Type 0} (shown : C → Option ByteRow) (goes : C → C → Type 0) (fails : C → F → C → Type 0) (old new : List C)
        (stop : MergeFault F G) (sink after : T) → StopsMerging shown goes steps fails refuses old new stop sink after
        → StopsMerging shown goes others fails refused old new stop (view sink) (view after)
    stop_viewed shown goes fails old new stop sink after stops = record {
      came = stops.came;
      mid = stops.mid;
      shows = stops.shows;
      leaves = stops.leaves;
      stops = because_viewed stops.came _ stop sink after stops.stops;
    }
