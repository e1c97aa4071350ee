-- Sub-records that are taken, and rows that are merged into segments.
use Rattle.std.proofs.Common.{◌≡◌, ◌+◌, ℕ, List, [], ◌∷◌, ◌++◌, length, map, take, Option, Result, Ok, Err, refl, sym, ap, subst, ◌∙◌}
use Rattle.std.proofs.Common.{append_assoc, arith}
use Rattle.std.specs.Io.KnownBytes.{Appends}
use Rattle.std.proofs.lemmas.List.{length-append, map-append}
use Rattle.std.proofs.lemmas.Result.{err_from_is_err_and}
use Rattle.std.proofs.Math.Seq.{take-append_seam}
use Rattle.hprof_devices.specs.declared.health.Health.{Health}
use Rattle.hprof_devices.specs.declared.health.Health.TheVariants.{Well}
use Rattle.hprof_devices.specs.declared.health.WriteFault.{WriteFault}
use Rattle.hprof_merge.specs.Rows.{ByteRow}
use Rattle.hprof_merge.specs.Run.{Runs}
use Rattle.hprof_merge.specs.Merging.{TakesBelow}
use Rattle.hprof_merge.specs.Union.{IsUnion}
use Rattle.hprof_merge.proofs.Unions.{union_apart, union_unique, union_front}
use Rattle.hprof_segments.specs.declared.segment_sink.SegmentSink.{SegmentSink}
use Rattle.hprof_segments.specs.declared.segment_writer.SegmentWriter.{SegmentWriter}
use Rattle.hprof_segments.specs.declared.segment_fault.SegmentFault.{SegmentFault}
use Rattle.hprof_segments.specs.declared.segment_fault.SegmentFault.TheVariants as segments
use Rattle.hprof_segments.specs.ByteSegments.{IsSub, segment_records}
use Rattle.hprof_segments.specs.Sink.{sink_state, IsOverSame, HasTakenRows, TakesRow, TakesIntoSink, SinkRefuses}
use Rattle.hprof_segments.specs.Taking.{HasTaken, EndsTaking}
use Rattle.hprof_segments.specs.Writer.{held_bytes}
use Rattle.hprof_segments.proofs.Takes.{taken_front}
use Rattle.hprof_segments.proofs.RowRuns.{rows_taken}
use Rattle.hprof_segments.proofs.Viewed.{run_viewed}
use Rattle.hprof_objects.specs.declared.object_fault.ObjectFault.{ObjectFault}
use Rattle.hprof_objects.specs.declared.object_fault.ObjectFault.TheVariants as stops
use Rattle.hprof_objects.specs.MergedObjects.{MergesLists, UnlessRefused}
use Rattle.std.specs.Prelude.{IfErr, IsErrAnd}
use Rattle.std.specs.List.{AllByRecursion}
use Rattle.hprof_objects.specs.PartsRead.{PartRead}
use Rattle.hprof_objects.specs.StoredObjects.{objects_of}
use Rattle.hprof_stored.specs.Dumping.{AreSubRecords, IsOfDevices, LeavesTarget, TakesSubs, WritesSome, bytes_of}
use Rattle.hprof_stored.proofs.Unchanged as unchanged

-- a front of some bytes
pub some_of : (start now : Option (List ℕ)) (sent rest text : List ℕ) → Appends start now sent → text ≡ sent ++ rest
    → WritesSome start now text
some_of start now sent rest text appends is = (
  length sent,
  omega (arith, ap length is, length-append sent rest),
  subst (Appends start now) (sym (ap (take (length sent)) is ∙ take-append_seam sent rest)) appends,
)

-- whatever follows the sub-records that were taken, a front of the segments of all was written
pub front_of : (start now : Option (List ℕ)) (held : List ℕ) (subs more : List (List ℕ)) → HasTaken start now held subs
    → WritesSome start now (segment_records (subs ++ more))
front_of start now held subs more has =
    let it = taken_front start now held subs more has in
    some_of start now it.0 it.1 (segment_records (subs ++ more)) it.2 it.3

-- one sub-record was taken, or not
pub one_more : (start now : Option (List ℕ)) (held : List ℕ) (subs : List (List ℕ)) (sub : List ℕ) (fault : WriteFault)
    → EndsTaking start now held subs sub (Err fault) → (more : List (List ℕ))
    → WritesSome start now (segment_records ((subs ++ sub ∷ []) ++ more))
one_more start now held subs sub fault ends more =
    subst (λ (l : List (List ℕ)). WritesSome start now (segment_records l)) (sym (append_assoc subs (sub ∷ []) more)) (ends more)

pub none_more : (start now : Option (List ℕ)) (held : List ℕ) (subs : List (List ℕ)) (sub : List ℕ) → HasTaken start now held subs
    → (more : List (List ℕ)) → WritesSome start now (segment_records ((subs ++ sub ∷ []) ++ more))
none_more start now held subs sub has more =
    subst (λ (l : List (List ℕ)). WritesSome start now (segment_records l)) (sym (append_assoc subs (sub ∷ []) more))
    (front_of start now held subs (sub ∷ more) has)

-- what is passed on unchanged by `?` is what came
pub at_error : {A E : Type 0} (P : Result A E → Type 0) (r : Result A E) (e : E) → P (Err e) → IsErrAnd r (λ x. x ≡ e) → P r
at_error P r e holds is =
    let p = err_from_is_err_and r is in
    subst P (sym (p.1 ∙ ap (λ x. Err x) p.2)) holds

-- ---- a merge into a sink

module _ {W : Type 0} (written : W → Option (List ℕ)) (health : W → Health) where
  same_then : (old mid new : SegmentSink W) → IsOverSame old mid → IsOverSame mid new → IsOverSame old new
  same_then old mid new first second = (second.0 ∙ first.0, second.1 ∙ first.1)

  -- the sink stays one into the same writer and target
  pub same_lists : (lists : List (List ByteRow)) (r : Result (Unit {0}) (ObjectFault SegmentFault)) (old new : SegmentSink W)
      → MergesLists (TakesIntoSink written) (SinkRefuses written health) lists r old new → IsOverSame old new
  same_lists =
      unchanged.same_lists (TakesIntoSink written) (SinkRefuses written health) IsOverSame (λ it. (refl, refl)) same_then
      (λ old key bytes new takes. takes.0) (λ old key bytes fault new refuses. refuses.0)

  viewed : (old : SegmentSink W) (rows : List ByteRow) (new : SegmentSink W) → Runs (TakesIntoSink written) old rows new
      → Runs (TakesRow written) (sink_state old) rows (sink_state new)
  viewed = run_viewed sink_state (TakesIntoSink written) (TakesRow written) (λ _ _ _ _ takes. takes.1)

  -- the first of the rows were taken
  taken_run : (start : Option (List ℕ)) (subs : List (List ℕ)) (old new : SegmentSink W) (rows : List ByteRow)
      → Runs (TakesIntoSink written) old rows new → HasTakenRows written (sink_state old) start subs
      → HasTakenRows written (sink_state new) start (subs ++ bytes_of rows)
  taken_run start subs old new rows run has =
      rows_taken written (sink_state old) (sink_state new) rows start subs (viewed old rows new run) has

  -- the sub-records of all rows, where these come first
  split : (subs more : List (List ℕ)) (front rest rows : List ByteRow) → rows ≡ front ++ rest
      → (subs ++ bytes_of rows) ++ more ≡ (subs ++ bytes_of front) ++ (bytes_of rest ++ more)
  split subs more front rest rows is =
      ap (λ (l : List ByteRow). (subs ++ bytes_of l) ++ more) is
      ∙ ap (λ (l : List (List ℕ)). (subs ++ l) ++ more) (map-append (λ (row : ByteRow). row.1) front rest)
      ∙ ap (λ (l : List (List ℕ)). l ++ more) (sym (append_assoc subs (bytes_of front) (bytes_of rest)))
      ∙ append_assoc (subs ++ bytes_of front) (bytes_of rest) more

  module _ (lists : List (List ByteRow)) (rows : List ByteRow) (union : IsUnion lists rows) (start : Option (List ℕ))
      (subs : List (List ℕ)) where
    below : (bound : ℕ) (old new : SegmentSink W) → TakesBelow (TakesIntoSink written) lists bound old new
        → HasTakenRows written (sink_state old) start subs → (more : List (List ℕ))
        → WritesSome start (written new.target.now) (segment_records ((subs ++ bytes_of rows) ++ more))
    below bound old new taken has more =
        let cut = union_front lists bound taken.front rows taken.union union in
        subst (λ (l : List (List ℕ)). WritesSome start (written new.target.now) (segment_records l))
        (sym (split subs more taken.front cut.0 rows cut.1))
        (front_of start (written new.target.now) (held_bytes new.writer.now) (subs ++ bytes_of taken.front) (bytes_of cut.0 ++ more)
        (taken_run start subs old new taken.front taken.run has))

    pub lists_taken : (r : Result (Unit {0}) (ObjectFault SegmentFault)) (old new : SegmentSink W)
        → MergesLists (TakesIntoSink written) (SinkRefuses written health) lists r old new
        → HasTakenRows written (sink_state old) start subs
        → TakesSubs start (written new.target.now) (held_bytes new.writer.now) (subs ++ bytes_of rows) r
    lists_taken (Ok done) old new taken has =
        subst (λ (l : List ByteRow). HasTaken start (written new.target.now) (held_bytes new.writer.now) (subs ++ bytes_of l))
        (union_unique lists taken.all rows taken.union union) (taken_run start subs old new taken.all taken.run has)
    lists_taken (Err stops.OutOfMemory) old new front has = below front.0 old new front.1 has
    lists_taken (Err (stops.TwoContents key)) old new front has = below key old new front.1 has
    lists_taken (Err (stops.Scratch fault)) old new front has = below front.0 old new front.1 has
    lists_taken (Err (stops.Part part fault)) old new front has = below front.0 old new front.1 has
    lists_taken (Err (stops.Sink segments.NoSubRecord)) old new refusal has = λ more.
        let row = refusal.0 in
        let it = refusal.1 in
        let cut = union_front lists (row.0 + 1) (it.front ++ row ∷ []) rows it.union union in
        let is : rows ≡ it.front ++ (row ∷ cut.0) = cut.1 ∙ append_assoc it.front (row ∷ []) cut.0 in
        subst (λ (l : List (List ℕ)). WritesSome start (written new.target.now) (segment_records l))
        (sym (split subs more it.front (row ∷ cut.0) rows is))
        (front_of start (written new.target.now) (held_bytes new.writer.now) (subs ++ bytes_of it.front) (bytes_of (row ∷ cut.0) ++ more)
        (subst (λ (s : SegmentWriter × W). HasTakenRows written s start (subs ++ bytes_of it.front)) (sym it.refused.1.1)
        (taken_run start subs old it.mid it.front it.run has)))
    lists_taken (Err (stops.Sink (segments.Write fault))) old new refusal has = λ more.
        let row = refusal.0 in
        let it = refusal.1 in
        let cut = union_front lists (row.0 + 1) (it.front ++ row ∷ []) rows it.union union in
        let is : rows ≡ it.front ++ (row ∷ cut.0) = cut.1 ∙ append_assoc it.front (row ∷ []) cut.0 in
        subst (λ (l : List (List ℕ)). WritesSome start (written new.target.now) (segment_records l))
        (sym (split subs more it.front (row ∷ cut.0) rows is))
        (it.refused.1.prefix start (subs ++ bytes_of it.front) (bytes_of cut.0 ++ more)
        (taken_run start subs old it.mid it.front it.run has))

  -- how the target is doing
  pub target_left : (lists : List (List ByteRow)) (r : Result (Unit {0}) (ObjectFault SegmentFault)) (old new : SegmentSink W)
      → MergesLists (TakesIntoSink written) (SinkRefuses written health) lists r old new
      → UnlessRefused (health new.target.now ≡ Well) r → LeavesTarget r (health new.target.now)
  target_left lists (Ok done) old new merged well = well
  target_left lists (Err stops.OutOfMemory) old new merged well = well
  target_left lists (Err (stops.TwoContents key)) old new merged well = well
  target_left lists (Err (stops.Scratch fault)) old new merged well = well
  target_left lists (Err (stops.Part part fault)) old new merged well = well
  target_left lists (Err (stops.Sink segments.NoSubRecord)) old new merged well = tt
  target_left lists (Err (stops.Sink (segments.Write fault))) old new merged well = merged.1.refused.1.health

  -- what becomes of the writer and the target
  module _ (new : SegmentSink W) (writer : SegmentWriter) (target : W) (becomes : writer ≡ new.writer.now)
      (becomes_too : target ≡ new.target.now) where
    pub taken_into : (r : Result (Unit {0}) (ObjectFault SegmentFault)) (start : Option (List ℕ)) (subs : List (List ℕ))
        → TakesSubs start (written new.target.now) (held_bytes new.writer.now) subs r
        → TakesSubs start (written target) (held_bytes writer) subs r
    taken_into r start subs taken =
        subst (λ (t : W). TakesSubs start (written t) (held_bytes writer) subs r) (sym becomes_too)
        (subst (λ (w : SegmentWriter). TakesSubs start (written new.target.now) (held_bytes w) subs r) (sym becomes) taken)

    pub left_in : (r : Result (Unit {0}) (ObjectFault SegmentFault)) → LeavesTarget r (health new.target.now)
        → LeavesTarget r (health target)
    left_in r left = subst (λ (t : W). LeavesTarget r (health t)) (sym becomes_too) left

-- ---- the sub-records of a heap

module _ {A : Type 0} (f : A → List ℕ) where
  pub so_far : (done : List A) (next : A) (rest all : List A) → all ≡ done ++ next ∷ rest
      → map f all ≡ (map f done ++ f next ∷ []) ++ map f rest
  so_far done next rest all is =
      ap (map f) is ∙ map-append f done (next ∷ rest) ∙ sym (append_assoc (map f done) (f next ∷ []) (map f rest))

  pub one_behind : (done : List A) (next : A) → map f done ++ f next ∷ [] ≡ map f (done ++ next ∷ [])
  one_behind done next = sym (map-append f done (next ∷ []))

  -- a front of the segments of some is one of those of all
  pub front_of_all : (start now : Option (List ℕ)) (done : List A) (next : A) (rest all : List A) → all ≡ done ++ next ∷ rest
      → ((more : List (List ℕ)) → WritesSome start now (segment_records ((map f done ++ f next ∷ []) ++ more)))
      → (more : List (List ℕ)) → WritesSome start now (segment_records (map f all ++ more))
  front_of_all start now done next rest all is some more =
      subst (λ (l : List (List ℕ)). WritesSome start now (segment_records l))
      (sym (ap (λ (l : List (List ℕ)). l ++ more) (so_far done next rest all is)
      ∙ append_assoc (map f done ++ f next ∷ []) (map f rest) more))
      (some (map f rest ++ more))

-- ---- why a merge stops

middle : (P : ByteRow → Type 0) (front : List ByteRow) (row : ByteRow) (rest : List ByteRow)
    → AllByRecursion P ((front ++ row ∷ []) ++ rest) → P row
middle P [] row rest all = all.0
middle P (first ∷ front) row rest all = middle P front row rest all.1

module _ {W : Type 0} (written : W → Option (List ℕ)) (health : W → Health) where
  of_devices : (lists : List (List ByteRow)) (rows : List ByteRow) → IsUnion lists rows → AreSubRecords rows
      → (stop : ObjectFault SegmentFault) (old new : SegmentSink W)
      → MergesLists (TakesIntoSink written) {A = Unit {0}} (SinkRefuses written health) lists (Err stop) old new → IsOfDevices stop
  of_devices lists rows union all stops.OutOfMemory old new merged = tt
  of_devices lists rows union all (stops.TwoContents key) old new merged = union_apart lists rows key union merged.0.contents
  of_devices lists rows union all (stops.Scratch fault) old new merged = tt
  of_devices lists rows union all (stops.Part part fault) old new merged = tt
  of_devices lists rows union all (stops.Sink segments.NoSubRecord) old new merged =
      let row = merged.0 in
      let it = merged.1 in
      let cut = union_front lists (row.0 + 1) (it.front ++ row ∷ []) rows it.union union in
      it.refused.1.0 (middle (λ (r : ByteRow). IsSub r.1) it.front row cut.0
      (subst (λ (l : List ByteRow). AllByRecursion (λ (r : ByteRow). IsSub r.1) l) cut.1 all))
  of_devices lists rows union all (stops.Sink (segments.Write fault)) old new merged = tt

  pub stops_of_devices : (Told : List PartRead → Type 0) (r : Result (Unit {0}) (ObjectFault SegmentFault)) (old new : SegmentSink W)
      → ((reads : List PartRead) → Told reads
      → MergesLists (TakesIntoSink written) (SinkRefuses written health) (objects_of reads) r old new)
      → IfErr r (λ stop. (reads : List PartRead) (rows : List ByteRow) → Told reads → IsUnion (objects_of reads) rows
      → AreSubRecords rows → IsOfDevices stop)
  stops_of_devices Told (Ok done) old new merged = tt
  stops_of_devices Told (Err stop) old new merged = λ reads rows told union all.
      of_devices (objects_of reads) rows union all stop old new (merged reads told)
