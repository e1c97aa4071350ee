-- A merge into a sink of rows, as a pass over objects.
use Rattle.std.proofs.Common.{◌≡◌, ◌+◌, ℕ, List, [], ◌∷◌, ◌++◌, Option, Result, Err, refl, sym, ap, subst, ◌∙◌, append_assoc}
use Rattle.hprof_values.specs.declared.ids.IdSize.{IdSize}
use Rattle.hprof_items.specs.FactValue.{FactValue}
use Rattle.hprof_devices.specs.declared.health.Health.{Health}
use Rattle.hprof_merge.specs.Rows.{ByteRow}
use Rattle.hprof_merge.specs.Run.{Runs}
use Rattle.hprof_merge.specs.Merging.{RefusesRow, TakesAll, TakesBelow}
use Rattle.hprof_merge.specs.Union.{AnyHas, IsUnion}
use Rattle.hprof_merge.proofs.Lists.{append-last}
use Rattle.hprof_merge.proofs.Unions.{union_front, union_unique}
use Rattle.hprof_objects.specs.declared.object_fault.ObjectFault.{ObjectFault}
use Rattle.hprof_objects.specs.declared.object_fault.ObjectFault.TheVariants as stops
use Rattle.hprof_objects.specs.MergedObjects.{IfScratchFails, MergesLists, StopsWithin, TellsChange}
use Rattle.hprof_objects.specs.PartsRead.{PartRead}
use Rattle.hprof_objects.specs.StoredObjects.{objects_of, scratch_under}
use Rattle.hprof_objects.specs.Whole.{AreObjects}
use Rattle.hprof_passes.specs.declared.pass_fault.PassFault.{PassFault}
use Rattle.hprof_passes.specs.Passing.{IfLost, Passes, RefusesObject, TakesFront, TakesObjects, objects_among}
use Rattle.hprof_stored.specs.declared.in_parts.InParts.{InParts}
use Rattle.hprof_stored.specs.declared.in_parts_fault.InPartsFault.{InPartsFault}
use Rattle.hprof_stored.specs.declared.row_decoder.RowDecoder.{RowDecoder}
use Rattle.hprof_stored.specs.declared.row_decoder.RowRefusal.{RowRefusal}
use Rattle.hprof_stored.specs.declared.row_decoder.RowRefusal.TheVariants as refusals
use Rattle.hprof_stored.specs.InParts.{AreAsRead, MakeUp, TellsPass, limits_under, objects_under, parts_under, pass_stop}
use Rattle.hprof_stored.specs.RowDecoder.{AreOverSame, GivesNone, GivesObject, SpellsObject, sink_under}
use Rattle.hprof_stored.proofs.Unchanged as unchanged
use Rattle.hprof_stored.proofs.ObjectSpelling.{IsObjectAt, object_at, one_spelled, row_spells, split_objects}

module _ {T E : Type 0} (takes : T → IdSize → FactValue → T → Type 0) (refuses : T → IdSize → FactValue → E → T → Type 0) where
  -- ---- the sink stays one over the same sink of objects

  pub same_then : (old mid new : RowDecoder T) → AreOverSame old mid → AreOverSame mid new → AreOverSame old new
  same_then old mid new first second = (second.0 ∙ first.0, second.1 ∙ first.1)

  pub same_run : (old : RowDecoder T) (rows : List ByteRow) (new : RowDecoder T) → Runs (GivesObject takes) old rows new
      → AreOverSame old new
  same_run =
      unchanged.same_run (GivesObject takes) (GivesNone refuses) AreOverSame (λ it. (refl, refl)) same_then
      (λ old key bytes new gives. gives.over)

  pub same_lists : (lists : List (List ByteRow)) (r : Result (Unit {0}) (ObjectFault (RowRefusal E))) (old new : RowDecoder T)
      → MergesLists (GivesObject takes) (GivesNone refuses) lists r old new → AreOverSame old new
  same_lists =
      unchanged.same_lists (GivesObject takes) (GivesNone refuses) AreOverSame (λ it. (refl, refl)) same_then
      (λ old key bytes new gives. gives.over) (λ old key bytes fault new gives. gives.0)

  -- ---- a row that is refused

  module _ (ids : IdSize) (lists : List (List ByteRow)) (old new : RowDecoder T) (size : old.ids ≡ ids) where
    size_then : (row : ByteRow) (refusal : RowRefusal E)
        → (refused : RefusesRow (GivesObject takes) (GivesNone refuses) lists row refusal old new) → refused.mid.ids ≡ ids
    size_then row refusal refused = (same_run old refused.front refused.mid refused.run).0 ∙ size

    -- where each row spells an object, none is refused as spelling none
    pub none_refused : ((row : ByteRow) → AnyHas lists row → (object : FactValue) × SpellsObject ids row.1 object)
        → (row : ByteRow) → RefusesRow (GivesObject takes) (GivesNone refuses) lists row refusals.NoObject old new → ⊥
    none_refused spelled row refused =
        let object = spelled row ((refused.union.same row).0 (append-last refused.front row)).0 in
        refused.refused.1.1 object.0
        (subst (λ (i : IdSize). SpellsObject i row.1 object.0) (sym (size_then row refusals.NoObject refused)) object.1)

  -- ---- the objects of rows

  module _ (ids : IdSize) where
    object_taken : (old new : RowDecoder T) (row : ByteRow) (object : FactValue) → old.ids ≡ ids → SpellsObject ids row.1 object
        → GivesObject takes old row.0 row.1 new → takes (sink_under old) ids object (sink_under new)
    object_taken old new row object size spells gives =
        let one : gives.object ≡ object =
        one_spelled ids row.1 gives.object object (subst (λ (i : IdSize). SpellsObject i row.1 gives.object) size gives.spells) spells in
        subst (λ (o : FactValue). takes (sink_under old) ids o (sink_under new)) one
        (subst (λ (i : IdSize). takes (sink_under old) i gives.object (sink_under new)) size gives.took)

    -- the objects of the rows that were given
    pub all_taken : (old new : RowDecoder T) (rows : List ByteRow) (objects : List FactValue) → old.ids ≡ ids → AreObjects ids rows objects
        → Runs (GivesObject takes) old rows new → TakesObjects takes ids (sink_under old) objects (sink_under new)
    all_taken old new [] [] size are run = ap (λ (it : RowDecoder T). sink_under it) run
    all_taken old new [] (object ∷ objects) size are run = absurd are
    all_taken old new (row ∷ rows) [] size are run = absurd are
    all_taken old new (row ∷ rows) (object ∷ objects) size are run = (
      sink_under run.0,
      object_taken old run.0 row object size (row_spells ids object row are.0 are.1) run.1,
      all_taken run.0 new rows objects (run.1.over.0 ∙ size) are.2 run.2,
    )

    module _ (lists : List (List ByteRow)) (rows : List ByteRow) (objects : List FactValue) (union : IsUnion lists rows)
        (are : AreObjects ids rows objects) (old new : RowDecoder T) (size : old.ids ≡ ids) where
      -- all of them
      pub merged : TakesAll (GivesObject takes) lists old new → TakesObjects takes ids (sink_under old) objects (sink_under new)
      merged taken =
          all_taken old new rows objects size are
          (subst (λ (l : List ByteRow). Runs (GivesObject takes) old l new) (union_unique lists taken.all rows taken.union union) taken.run)

      -- the first of them
      below : (bound : ℕ) → TakesBelow (GivesObject takes) lists bound old new
          → TakesFront takes ids objects (sink_under old) (sink_under new)
      below bound taken =
          let cut = union_front lists bound taken.front rows taken.union union in
          let it = split_objects ids taken.front cut.0 objects (subst (λ (l : List ByteRow). AreObjects ids l objects) cut.1 are) in
          record {
            front = it.mine;
            behind = it.behind;
            are = it.all;
            took = all_taken old new taken.front it.mine size it.are taken.run;
          }

      -- the object of the row that was refused
      refused_at : (row : ByteRow) (refusal : RowRefusal E)
          → (refused : RefusesRow (GivesObject takes) (GivesNone refuses) lists row refusal old new)
          → IsObjectAt ids refused.front row objects
      refused_at row refusal refused =
          let cut = union_front lists (row.0 + 1) (refused.front ++ row ∷ []) rows refused.union union in
          object_at ids refused.front row cut.0 objects
          (subst (λ (l : List ByteRow). AreObjects ids l objects) (cut.1 ∙ append_assoc refused.front (row ∷ []) cut.0) are)

      no_object : (row : ByteRow) → RefusesRow (GivesObject takes) (GivesNone refuses) lists row refusals.NoObject old new → ⊥
      no_object row refused =
          let at = refused_at row refusals.NoObject refused in
          refused.refused.1.1 at.object
          (subst (λ (i : IdSize). SpellsObject i row.1 at.object)
          (sym (size_then ids lists old new size row refusals.NoObject refused)) at.spells)

      object_refused : (row : ByteRow) (fault : E)
          → RefusesRow (GivesObject takes) (GivesNone refuses) lists row (refusals.Sink fault) old new
          → RefusesObject takes refuses ids objects fault (sink_under old) (sink_under new)
      object_refused row fault refused =
          let at = refused_at row (refusals.Sink fault) refused in
          let sized = size_then ids lists old new size row (refusals.Sink fault) refused in
          let mid = refused.mid in
          let it = refused.refused.1 in
          let one : it.0 ≡ at.object =
          one_spelled ids row.1 it.0 at.object (subst (λ (i : IdSize). SpellsObject i row.1 it.0) sized it.1) at.spells in
          record {
            front = at.before;
            object = at.object;
            behind = at.behind;
            are = at.all;
            mid = sink_under mid;
            took = all_taken old mid refused.front at.before size at.are refused.run;
            refused = subst (λ (o : FactValue). refuses (sink_under mid) ids o fault (sink_under new)) one
                (subst (λ (i : IdSize). refuses (sink_under mid) i it.0 fault (sink_under new)) sized it.2);
          }

      -- a merge that stopped
      pub stopped : (stop : ObjectFault (RowRefusal E)) → StopsWithin (GivesObject takes) (GivesNone refuses) lists stop old new
          → Passes takes refuses ids {A = Unit {0}} objects (Err (pass_stop stop)) (sink_under old) (sink_under new)
      stopped stops.OutOfMemory front = below front.0 front.1
      stopped (stops.TwoContents id) front = below id front.1
      stopped (stops.Scratch fault) front = below front.0 front.1
      stopped (stops.Part part fault) front = below front.0 front.1
      stopped (stops.Sink refusals.NoObject) refused = absurd (no_object refused.0 refused.1)
      stopped (stops.Sink (refusals.Sink fault)) refused = object_refused refused.0 fault refused.1

-- ---- what a pass tells of the parts

module _ {S P T E : Type 0} (written : S → Option (List ℕ)) (health : S → Health) (bytes : P → List (Option (List ℕ)))
    (unreadable : S → Type 0) (takes : T → IdSize → FactValue → T → Type 0) (refuses : T → IdSize → FactValue → E → T → Type 0)
    (it : InParts S P) (old new : RowDecoder T) where
  pub told_by : (ids : IdSize) (facts : List FactValue) (size : old.ids ≡ ids) (stop : ObjectFault (RowRefusal E))
      → ((reads : List PartRead) → AreAsRead written health bytes it reads
      → StopsWithin (GivesObject takes) (GivesNone refuses) (objects_of reads) stop old new)
      → TellsChange written health (limits_under it) (bytes (parts_under it)) (objects_under it) stop
      → IfScratchFails stop (unreadable (scratch_under (objects_under it)))
      → IfLost (TellsPass written health bytes unreadable it ids facts) (pass_stop stop)
  told_by ids facts size stops.OutOfMemory within changed fails = tt
  told_by ids facts size (stops.TwoContents id) within changed fails = λ reads as_read. (within reads as_read).0
  told_by ids facts size (stops.Scratch fault) within changed fails = (fails, changed)
  told_by ids facts size (stops.Part part fault) within changed fails = changed
  told_by ids facts size (stops.Sink refusals.NoObject) within changed fails = λ reads as_read spelled.
      let refused = within reads as_read in
      none_refused takes refuses ids (objects_of reads) old new size spelled refused.0 refused.1
  told_by ids facts size (stops.Sink (refusals.Sink fault)) within changed fails = tt

  -- facts that the objects make up
  module _ (ids : IdSize) (facts all : List FactValue) (make : MakeUp written health bytes it ids facts all) (size : old.ids ≡ ids)
      (was now : T) (begins : sink_under old ≡ was) (ends : now ≡ sink_under new) where
    pub all_given : TakesAll (GivesObject takes) (objects_of make.reads) old new → TakesObjects takes ids was (objects_among all) now
    all_given taken =
        subst (λ (l : List FactValue). TakesObjects takes ids was l now) (sym make.among)
        (subst (λ (t : T). TakesObjects takes ids was make.objects t) (sym ends)
        (subst (λ (t : T). TakesObjects takes ids t make.objects (sink_under new)) begins
        (merged takes refuses ids (objects_of make.reads) make.rows make.objects make.union make.are old new size taken)))

    pub some_given : (stop : ObjectFault (RowRefusal E)) (why : PassFault E InPartsFault) → why ≡ pass_stop stop
        → StopsWithin (GivesObject takes) (GivesNone refuses) (objects_of make.reads) stop old new
        → Passes takes refuses ids {A = Unit {0}} (objects_among all) (Err why) was now
    some_given stop why is within =
        let passes : T → List FactValue → T → Type 0 =
        λ (from : T) (objects : List FactValue) (to : T). Passes takes refuses ids {A = Unit {0}} objects (Err (pass_stop stop)) from to in
        subst (λ (w : PassFault E InPartsFault). Passes takes refuses ids {A = Unit {0}} (objects_among all) (Err w) was now) (sym is)
        (subst (λ (l : List FactValue). passes was l now) (sym make.among)
        (subst (λ (t : T). passes was make.objects t) (sym ends)
        (subst (λ (t : T). passes t make.objects (sink_under new)) begins
        (stopped takes refuses ids (objects_of make.reads) make.rows make.objects make.union make.are old new size stop within))))
