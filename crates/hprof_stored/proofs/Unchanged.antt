-- What stays the same at each row that a sink takes or refuses, stays the same over a merge.
use Rattle.std.proofs.Common.{ℕ, List, [], ◌∷◌, Result, Ok, Err, subst}
use Rattle.hprof_merge.specs.Rows.{ByteRow}
use Rattle.hprof_merge.specs.Run.{Runs}
use Rattle.hprof_objects.specs.declared.object_fault.ObjectFault.{ObjectFault}
use Rattle.hprof_objects.specs.declared.object_fault.ObjectFault.TheVariants as stops
use Rattle.hprof_objects.specs.MergedObjects.{MergesLists}
use Rattle.hprof_objects.specs.Picks.{Picks}

module _ {T G : Type 0} (steps : T → ℕ → List ℕ → T → Type 0) (refuses : T → ℕ → List ℕ → G → T → Type 0) (Same : T → T → Type 0)
    (itself : (it : T) → Same it it) (through : (old mid new : T) → Same old mid → Same mid new → Same old new)
    (at_row : (old : T) (key : ℕ) (bytes : List ℕ) (new : T) → steps old key bytes new → Same old new) where
  pub same_run : (old : T) (rows : List ByteRow) (new : T) → Runs steps old rows new → Same old new
  same_run old [] new run = subst (Same old) run (itself old)
  same_run old (row ∷ rows) new run =
      through old run.0 new (at_row old row.0 row.1 run.0 run.1) (same_run run.0 rows new run.2)

  pub same_lists : ((old : T) (key : ℕ) (bytes : List ℕ) (fault : G) (new : T) → refuses old key bytes fault new → Same old new)
      → (lists : List (List ByteRow)) (r : Result (Unit {0}) (ObjectFault G)) (old new : T) → MergesLists steps refuses lists r old new
      → Same old new
  same_lists at_refusal lists (Ok done) old new taken = same_run old taken.all new taken.run
  same_lists at_refusal lists (Err stops.OutOfMemory) old new front = same_run old front.1.front new front.1.run
  same_lists at_refusal lists (Err (stops.TwoContents key)) old new front = same_run old front.1.front new front.1.run
  same_lists at_refusal lists (Err (stops.Scratch fault)) old new front = same_run old front.1.front new front.1.run
  same_lists at_refusal lists (Err (stops.Part part fault)) old new front = same_run old front.1.front new front.1.run
  same_lists at_refusal lists (Err (stops.Sink fault)) old new refusal =
      let row = refusal.0 in
      let it = refusal.1 in
      through old it.mid new (same_run old it.front it.mid it.run) (at_refusal it.mid row.0 row.1 fault new it.refused)

  pub same_picked : ((old : T) (key : ℕ) (bytes : List ℕ) (fault : G) (new : T) → refuses old key bytes fault new → Same old new)
      → (wanted : List ℕ) (lists : List (List ByteRow)) (r : Result (Unit {0}) (ObjectFault G)) (old new : T)
      → Picks steps refuses wanted lists r old new → Same old new
  same_picked at_refusal wanted lists (Ok done) old new taken = same_run old _ new taken.run
  same_picked at_refusal wanted lists (Err stops.OutOfMemory) old new front = same_run old _ new front.1.run
  same_picked at_refusal wanted lists (Err (stops.TwoContents key)) old new front = same_run old _ new front.1.run
  same_picked at_refusal wanted lists (Err (stops.Scratch fault)) old new front = same_run old _ new front.1.run
  same_picked at_refusal wanted lists (Err (stops.Part part fault)) old new front = same_run old _ new front.1.run
  same_picked at_refusal wanted lists (Err (stops.Sink fault)) old new refusal =
      let row = refusal.0 in
      let it = refusal.1 in
      through old it.mid new (same_run old _ it.mid it.run) (at_refusal it.mid row.0 row.1 fault new it.refused)
