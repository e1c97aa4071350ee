-- What a merge of lists that are enough tells of all.
use Rattle.std.proofs.Common.{◌≡◌, ◌≤◌, ◌+◌, ◌++◌, ℕ, List, [], ◌∷◌, inl, inr, refl, arith}
use Rattle.std.specs.declared.convert.Infallible.{Infallible}
use Rattle.hprof_merge.specs.declared.merge_fault.MergeFault.{MergeFault}
use Rattle.hprof_merge.specs.declared.merge_fault.MergeFault.TheVariants as stops
use Rattle.hprof_merge.specs.declared.one_of.OneOf.{OneOf}
use Rattle.hprof_merge.specs.declared.one_of.OneOf.TheVariants.{First, Second}
use Rattle.hprof_merge.specs.Merging.{TakesAll, TakesBelow}
use Rattle.hprof_merge.specs.Rows.{ByteRow}
use Rattle.hprof_merge.specs.Stopping.{StopsBecause, TakesUpTo}
use Rattle.hprof_merge.specs.TwoContents.{HasEnoughOf, IsLeastWithTwoContents}
use Rattle.hprof_merge.specs.Union.{AllFrom, IsUnionBelow}
use Rattle.hprof_merge.proofs.Unions.{enough_union}
use Rattle.hprof_runs.specs.declared.run_fault.RunFault.{RunFault}
use Rattle.hprof_runs.specs.declared.run_fault.RunFault.TheVariants as runs
use Rattle.hprof_objects.specs.declared.object_fault.ObjectFault.{ObjectFault}
use Rattle.hprof_objects.specs.declared.object_fault.ObjectFault.TheVariants.{OutOfMemory, TwoContents, Scratch, Part, Sink}
use Rattle.hprof_objects.specs.declared.stretch_fault.StretchFault.{StretchFault}
use Rattle.hprof_objects.specs.declared.stretch_fault.StretchFault.TheVariants as stretches
use Rattle.hprof_objects.specs.MergedObjects.{StopsWithin, TakesFront}
use Rattle.hprof_objects.specs.ObjectCursors.{IsBefore, fault_stop, object_stop}

nothing_below : (lists : List (List ByteRow)) → IsUnionBelow lists 0 []
nothing_below lists = record {
  ascends = tt;
  same = λ row. ((λ never. absurd never), (λ there. absurd (let lt = there.1 in omega (arith, lt))));
}

module _ {T G : Type 0} (steps : T → ℕ → List ℕ → T → Type 0) (refuses : T → ℕ → List ℕ → G → T → Type 0) where
  nothing_taken : (lists : List (List ByteRow)) (old new : T) → old ≡ new → TakesFront steps lists old new
  nothing_taken lists old new same = (0, record { front = []; union = nothing_below lists; run = same })

  -- the merge did not begin
  pub stops_before : (stop : ObjectFault G) → IsBefore stop → (lists : List (List ByteRow)) (sink : T)
      → StopsWithin steps refuses lists stop sink sink
  stops_before OutOfMemory before lists sink = nothing_taken lists sink sink refl
  stops_before (TwoContents key) before lists sink = absurd before
  stops_before (Scratch fault) before lists sink = nothing_taken lists sink sink refl
  stops_before (Part part fault) before lists sink = nothing_taken lists sink sink refl
  stops_before (Sink fault) before lists sink = absurd before

  -- at the fault of a cursor the sink took the first rows
  stops_at_fault : (lists : List (List ByteRow)) (old new : T) (part : ℕ)
      (fault : OneOf (OneOf (OneOf Infallible Infallible) RunFault) StretchFault) → TakesFront steps lists old new
      → StopsWithin steps refuses lists (fault_stop {G = G} part fault) old new
  stops_at_fault lists old new part (First (First never)) takes = takes
  stops_at_fault lists old new part (First (Second runs.OutOfMemory)) takes = takes
  stops_at_fault lists old new part (First (Second runs.Read)) takes = takes
  stops_at_fault lists old new part (First (Second runs.Damaged)) takes = takes
  stops_at_fault lists old new part (Second stretches.OutOfMemory) takes = takes
  stops_at_fault lists old new part (Second stretches.Read) takes = takes
  stops_at_fault lists old new part (Second stretches.Changed) takes = takes

  module _ (came now lists : List (List ByteRow)) (old new : T) (part_at : ℕ → ℕ)
      (least : (key : ℕ) → AllFrom key now → IsLeastWithTwoContents (came ++ now) key → IsLeastWithTwoContents lists key)
      (below : (key bound : ℕ) (front : List ByteRow) → AllFrom key now → bound ≤ key + 1 → IsUnionBelow (came ++ now) bound front
      → IsUnionBelow lists bound front) where
    takes_below : (key bound : ℕ) → AllFrom key now → bound ≤ key + 1 → TakesBelow steps (came ++ now) bound old new
        → TakesBelow steps lists bound old new
    takes_below key bound low small takes =
        record { front = takes.front; union = below key bound takes.front low small takes.union; run = takes.run }

    takes_front : (key : ℕ) → AllFrom key now → TakesUpTo steps (came ++ now) key old new → TakesFront steps lists old new
    takes_front key low (inl takes) = (key, takes_below key key low (omega arith) takes)
    takes_front key low (inr takes) = (key + 1, takes_below key (key + 1) low (omega arith) takes)

    pub stops_within : (stop : MergeFault (OneOf (OneOf (OneOf Infallible Infallible) RunFault) StretchFault) G)
        → StopsBecause steps refuses came now stop old new → StopsWithin steps refuses lists (object_stop part_at stop) old new
    stops_within stops.OutOfMemory because = nothing_taken lists old new because.1
    stops_within (stops.TwoContents key) because =
        (least key because.0 because.1, takes_below key key because.0 (omega arith) because.2)
    stops_within (stops.Cursor place fault) because =
        stops_at_fault lists old new (part_at place) fault (takes_front because.0 because.1 because.3)
    stops_within (stops.Sink fault) because =
        let row = because.0 in
        let it = because.2 in (
          row,
          record {
            front = it.front;
            union = below row.0 (row.0 + 1) (it.front ++ row ∷ []) because.1 (omega arith) it.union;
            mid = it.mid;
            run = it.run;
            refused = it.refused;
          },
        )

-- at the end the sink took all
pub takes_all : {T : Type 0} (steps : T → ℕ → List ℕ → T → Type 0) (lists others : List (List ByteRow)) → HasEnoughOf lists others
    → (old new : T) → TakesAll steps others old new → TakesAll steps lists old new
takes_all steps lists others enough old new takes =
    record { all = takes.all; union = (enough_union lists others enough takes.all).1 takes.union; run = takes.run }
