-- Rows whose bytes are written by a merge.
use Rattle.std.proofs.Common.{◌≡◌, ◌+◌, ℕ, List, [], ◌∷◌, ◌++◌, Option, Result, Ok, Err, refl, sym, ap, subst, ◌∙◌, append_assoc}
use Rattle.std.specs.Prelude.{IfErr}
use Rattle.std.specs.Io.KnownBytes.{Appends}
use Rattle.std.proofs.KnownBytes.{Appends-nil, Appends-trans}
use Rattle.std.proofs.lemmas.Grind.{flat_map-append}
use Rattle.hprof_devices.specs.declared.health.Health.{Health}
use Rattle.hprof_devices.specs.declared.health.Health.TheVariants.{Well}
use Rattle.hprof_devices.proofs.Writes.{WritesFront-more, WritesFront-then}
use Rattle.hprof_merge.specs.Rows.{ByteRow}
use Rattle.hprof_merge.specs.Run.{Runs}
use Rattle.hprof_merge.specs.Merging.{TakesBelow}
use Rattle.hprof_merge.specs.Union.{IsUnion}
use Rattle.hprof_merge.proofs.Unions.{union_apart, union_front, union_unique}
use Rattle.hprof_segments.specs.declared.segment_fault.SegmentFault.{SegmentFault}
use Rattle.hprof_segments.specs.declared.segment_fault.SegmentFault.TheVariants as segments
use Rattle.hprof_objects.specs.declared.object_fault.ObjectFault.{ObjectFault}
use Rattle.hprof_objects.specs.declared.object_fault.ObjectFault.TheVariants as stops
use Rattle.hprof_objects.specs.MergedObjects.{MergesLists, UnlessRefused}
use Rattle.hprof_objects.specs.PartsRead.{PartRead}
use Rattle.hprof_objects.specs.StoredObjects.{objects_of}
use Rattle.hprof_stored.specs.Dumping.{IsOfDevices, LeavesTarget, WritesOrStops, WritesSome}
use Rattle.hprof_stored.proofs.Subs.{some_of}
use Rattle.hprof_stored.proofs.Unchanged as unchanged
use Rattle.hprof_stored101.specs.declared.row_writer.RowWriter.{RowWriter}
use Rattle.hprof_stored101.specs.RowWriter.{IsOverSame, StopsAtRow, WritesRow}
use Rattle.hprof_stored101.specs.Dumping101.{rows_bytes}

-- ---- the bytes of rows

pub bytes_apart : (front rest rows : List ByteRow) → rows ≡ front ++ rest → rows_bytes rows ≡ rows_bytes front ++ rows_bytes rest
bytes_apart front rest rows is = ap rows_bytes is ∙ flat_map-append (λ (row : ByteRow). row.1) front rest

-- ---- a merge into a sink

module _ {W : Type 0} (written : W → Option (List ℕ)) (health : W → Health) where
  same_then : (old mid new : RowWriter W) → IsOverSame old mid → IsOverSame mid new → IsOverSame old new
  same_then old mid new first second = second ∙ first

  same_refused : (old : RowWriter W) (key : ℕ) (bytes : List ℕ) (fault : SegmentFault) (new : RowWriter W)
      → StopsAtRow written health old key bytes fault new → IsOverSame old new
  same_refused old key bytes segments.NoSubRecord new refuses = absurd refuses
  same_refused old key bytes (segments.Write fault) new refuses = refuses.0

  -- the sink stays one over the same target
  pub same_lists : (lists : List (List ByteRow)) (r : Result (Unit {0}) (ObjectFault SegmentFault)) (old new : RowWriter W)
      → MergesLists (WritesRow written) (StopsAtRow written health) lists r old new → IsOverSame old new
  same_lists =
      unchanged.same_lists (WritesRow written) (StopsAtRow written health) IsOverSame (λ it. refl) same_then
      (λ old key bytes new writes. writes.0) same_refused

  -- the first of the rows were written
  run_written : (old : RowWriter W) (rows : List ByteRow) (new : RowWriter W) → Runs (WritesRow written) old rows new
      → Appends (written old.target.now) (written new.target.now) (rows_bytes rows)
  run_written old [] new run =
      subst (λ (it : RowWriter W). Appends (written old.target.now) (written it.target.now) []) run (Appends-nil (written old.target.now))
  run_written old (row ∷ rows) new run =
      Appends-trans (written old.target.now) (written run.0.target.now) (written new.target.now) row.1 (rows_bytes rows) run.1.1
      (run_written run.0 rows new run.2)

  module _ (lists : List (List ByteRow)) (rows : List ByteRow) (union : IsUnion lists rows) where
    below : (bound : ℕ) (old new : RowWriter W) → TakesBelow (WritesRow written) lists bound old new
        → WritesSome (written old.target.now) (written new.target.now) (rows_bytes rows)
    below bound old new taken =
        let cut = union_front lists bound taken.front rows taken.union union in
        some_of (written old.target.now) (written new.target.now) (rows_bytes taken.front) (rows_bytes cut.0) (rows_bytes rows)
        (run_written old taken.front new taken.run) (bytes_apart taken.front cut.0 rows cut.1)

    -- all rows were written, or some of them
    pub rows_written : (r : Result (Unit {0}) (ObjectFault SegmentFault)) (old new : RowWriter W)
        → MergesLists (WritesRow written) (StopsAtRow written health) lists r old new
        → WritesOrStops (written old.target.now) (written new.target.now) r (rows_bytes rows)
    rows_written (Ok done) old new taken =
        subst (λ (l : List ByteRow). Appends (written old.target.now) (written new.target.now) (rows_bytes l))
        (union_unique lists taken.all rows taken.union union) (run_written old taken.all new taken.run)
    rows_written (Err stops.OutOfMemory) old new front = below front.0 old new front.1
    rows_written (Err (stops.TwoContents key)) old new front = below key old new front.1
    rows_written (Err (stops.Scratch fault)) old new front = below front.0 old new front.1
    rows_written (Err (stops.Part part fault)) old new front = below front.0 old new front.1
    rows_written (Err (stops.Sink segments.NoSubRecord)) old new refusal = absurd refusal.1.refused
    rows_written (Err (stops.Sink (segments.Write fault))) old new refusal =
        let row = refusal.0 in
        let it = refusal.1 in
        let cut = union_front lists (row.0 + 1) (it.front ++ row ∷ []) rows it.union union in
        let is : rows ≡ it.front ++ (row ∷ cut.0) = cut.1 ∙ append_assoc it.front (row ∷ []) cut.0 in
        subst (WritesSome (written old.target.now) (written new.target.now)) (sym (bytes_apart it.front (row ∷ cut.0) rows is))
        (WritesFront-then (written old.target.now) (written it.mid.target.now) (written new.target.now) (rows_bytes it.front)
        (rows_bytes (row ∷ cut.0)) (run_written old it.front it.mid it.run)
        (WritesFront-more (written it.mid.target.now) (written new.target.now) row.1 (rows_bytes cut.0) it.refused.2))

  -- how the target is doing
  pub target_left : (lists : List (List ByteRow)) (r : Result (Unit {0}) (ObjectFault SegmentFault)) (old new : RowWriter W)
      → MergesLists (WritesRow written) (StopsAtRow written health) lists r old new
      → UnlessRefused (health new.target.now ≡ Well) r → LeavesTarget r (health new.target.now)
  target_left lists (Ok done) old new merged well = well
  target_left lists (Err stops.OutOfMemory) old new merged well = well
  target_left lists (Err (stops.TwoContents key)) old new merged well = well
  target_left lists (Err (stops.Scratch fault)) old new merged well = well
  target_left lists (Err (stops.Part part fault)) old new merged well = well
  target_left lists (Err (stops.Sink segments.NoSubRecord)) old new merged well = tt
  target_left lists (Err (stops.Sink (segments.Write fault))) old new merged well = merged.1.refused.1

  -- why a merge stops
  of_devices : (lists : List (List ByteRow)) (rows : List ByteRow) → IsUnion lists rows → (stop : ObjectFault SegmentFault)
      (old new : RowWriter W) → MergesLists (WritesRow written) {A = Unit {0}} (StopsAtRow written health) lists (Err stop) old new
      → IsOfDevices stop
  of_devices lists rows union stops.OutOfMemory old new merged = tt
  of_devices lists rows union (stops.TwoContents key) old new merged = union_apart lists rows key union merged.0.contents
  of_devices lists rows union (stops.Scratch fault) old new merged = tt
  of_devices lists rows union (stops.Part part fault) old new merged = tt
  of_devices lists rows union (stops.Sink segments.NoSubRecord) old new merged = merged.1.refused
  of_devices lists rows union (stops.Sink (segments.Write fault)) old new merged = tt

  pub stops_of_devices : (Told : List PartRead → Type 0) (r : Result (Unit {0}) (ObjectFault SegmentFault)) (old new : RowWriter W)
      → ((reads : List PartRead) → Told reads → MergesLists (WritesRow written) (StopsAtRow written health) (objects_of reads) r old new)
      → IfErr r (λ stop. (reads : List PartRead) (rows : List ByteRow) → Told reads → IsUnion (objects_of reads) rows → IsOfDevices stop)
  stops_of_devices Told (Ok done) old new merged = tt
  stops_of_devices Told (Err stop) old new merged = λ reads rows told union.
      of_devices (objects_of reads) rows union stop old new (merged reads told)

  -- what becomes of the target
  module _ (new : RowWriter W) (target : W) (becomes : target ≡ new.target.now) where
    pub written_into : (r : Result (Unit {0}) (ObjectFault SegmentFault)) (start : Option (List ℕ)) (bytes : List ℕ)
        → WritesOrStops start (written new.target.now) r bytes → WritesOrStops start (written target) r bytes
    written_into r start bytes writes = subst (λ (t : W). WritesOrStops start (written t) r bytes) (sym becomes) writes

    pub left_in : (r : Result (Unit {0}) (ObjectFault SegmentFault)) → LeavesTarget r (health new.target.now)
        → LeavesTarget r (health target)
    left_in r left = subst (λ (t : W). LeavesTarget r (health t)) (sym becomes) left
