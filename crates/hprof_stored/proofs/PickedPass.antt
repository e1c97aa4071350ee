-- Picking into a sink of rows, as picking objects.
use Rattle.std.proofs.Common.{◌≡◌, ◌+◌, ℕ, Bool, true, false, List, [], ◌∷◌, ◌++◌, Option, Some, Result, Err, refl, sym, ap, subst}
use Rattle.std.proofs.Common.{◌∙◌, append_assoc}
use Rattle.std.proofs.lemmas.List.Elements.{filter-append}
use Rattle.hprof_values.specs.declared.ids.IdSize.{IdSize}
use Rattle.hprof_items.specs.FactValue.{FactValue, Name, Load, Unload, Frame, Trace, Start, End, Rooted, Class, Instance, ObjArray}
use Rattle.hprof_items.specs.FactValue.{PrimArray}
use Rattle.hprof_devices.specs.declared.health.Health.{Health}
use Rattle.hprof_merge.specs.Rows.{ByteRow}
use Rattle.hprof_merge.specs.Run.{Runs}
use Rattle.hprof_merge.specs.Union.{AnyHas, IsUnion}
use Rattle.hprof_merge.proofs.Lists.{append-last}
use Rattle.hprof_merge.proofs.Unions.{union_front, union_unique}
use Rattle.hprof_objects.specs.declared.object_fault.ObjectFault.{ObjectFault}
use Rattle.hprof_objects.specs.declared.object_fault.ObjectFault.TheVariants as stops
use Rattle.hprof_objects.specs.MergedObjects.{IfScratchFails, TellsChange}
use Rattle.hprof_objects.specs.ObjectRows.{object_row}
use Rattle.hprof_objects.specs.PartsRead.{PartRead}
use Rattle.hprof_objects.specs.Picks.{Picks, PicksAll, PicksBelow, RefusesWanted, StopsPicking}
use Rattle.hprof_objects.specs.StoredObjects.{objects_of, scratch_under}
use Rattle.hprof_objects.specs.Wanted.{is_among, wanted_rows}
use Rattle.hprof_objects.specs.Whole.{AreObjects}
use Rattle.hprof_passes.specs.declared.pass_fault.PassFault.{PassFault}
use Rattle.hprof_passes.specs.Passing.{IfLost, Passes, RefusesObject, TakesFront, TakesObjects, objects_among}
use Rattle.hprof_passes.specs.Picked.{is_one_of, is_wanted, object_of, picked}
use Rattle.hprof_stored.specs.declared.in_parts.InParts.{InParts}
use Rattle.hprof_stored.specs.declared.in_parts_fault.InPartsFault.{InPartsFault}
use Rattle.hprof_stored.specs.declared.row_decoder.RowDecoder.{RowDecoder}
use Rattle.hprof_stored.specs.declared.row_decoder.RowRefusal.{RowRefusal}
use Rattle.hprof_stored.specs.declared.row_decoder.RowRefusal.TheVariants as refusals
use Rattle.hprof_stored.specs.InParts.{AreAsRead, MakeUp, TellsPass, limits_under, objects_under, parts_under, pass_stop}
use Rattle.hprof_stored.specs.RowDecoder.{AreOverSame, GivesNone, GivesObject, SpellsObject, sink_under}
use Rattle.hprof_stored.proofs.Unchanged as unchanged
use Rattle.hprof_stored.proofs.ObjectSpelling.{IsObjectAt, object_at, one_spelled, split_objects}
use Rattle.hprof_stored.proofs.Passed.{all_taken, same_run, same_then}

-- ---- the rows and the objects that are wanted

-- an object has the identifier of its row
row_id : (ids : IdSize) (object : FactValue) (row : ByteRow) → object_row ids object ≡ Some row → object_of object ≡ Some row.0
row_id ids (Instance id trace class bytes) row is = let e : id ≡ row.0 = cc in ap Some e
row_id ids (ObjArray id trace class elements) row is = let e : id ≡ row.0 = cc in ap Some e
row_id ids (PrimArray id trace elem bytes) row is = let e : id ≡ row.0 = cc in ap Some e
row_id ids (Name id text) row is = absurd cc
row_id ids (Load serial class trace name) row is = absurd cc
row_id ids (Unload serial) row is = absurd cc
row_id ids (Frame id method signature source class_serial line) row is = absurd cc
row_id ids (Trace serial thread frames) row is = absurd cc
row_id ids (Start thread object trace name group parent_group) row is = absurd cc
row_id ids (End thread) row is = absurd cc
row_id ids (Rooted root) row is = absurd cc
row_id ids (Class id trace parent loader signers domain reserved1 reserved2 size constants statics fields) row is = absurd cc

module _ (ids : IdSize) (wanted : List ℕ) where
  with_first : (row : ByteRow) (rows : List ByteRow) (object : FactValue) (objects : List FactValue) (told : Bool)
      → is_among wanted row.0 ≡ told → is_wanted wanted object ≡ told → AreObjects ids (row ∷ []) (object ∷ [])
      → AreObjects ids (wanted_rows wanted rows) (picked wanted objects)
      → AreObjects ids (wanted_rows wanted (row ∷ rows)) (picked wanted (object ∷ objects))
  with_first row rows object objects true among is one are = rw (among, is) (one.0, one.1, are)
  with_first row rows object objects false among is one are = rw (among, is) are

  -- the wanted rows are those of the wanted objects
  wanted_objects : (rows : List ByteRow) (objects : List FactValue) → AreObjects ids rows objects
      → AreObjects ids (wanted_rows wanted rows) (picked wanted objects)
  wanted_objects [] [] are = tt
  wanted_objects [] (object ∷ objects) are = absurd are
  wanted_objects (row ∷ rows) [] are = absurd are
  wanted_objects (row ∷ rows) (object ∷ objects) are =
      with_first row rows object objects (is_among wanted row.0) refl
      (ap (is_one_of wanted) (row_id ids object row are.1)) (are.0, are.1, tt) (wanted_objects rows objects are.2)

  -- of rows one after another
  of_both : (front rest rows : List ByteRow) (objects : List FactValue) → rows ≡ front ++ rest → AreObjects ids rows objects
      → AreObjects ids (wanted_rows wanted front ++ wanted_rows wanted rest) (picked wanted objects)
  of_both front rest rows objects is are =
      subst (λ (l : List ByteRow). AreObjects ids l (picked wanted objects))
      (ap (wanted_rows wanted) is ∙ filter-append (λ row. is_among wanted row.0) front rest)
      (wanted_objects rows objects are)

  -- of a wanted row among rows
  of_one : (front : List ByteRow) (row : ByteRow) (rest rows : List ByteRow) (objects : List FactValue) → rows ≡ front ++ row ∷ rest
      → is_among wanted row.0 ≡ true → AreObjects ids rows objects
      → AreObjects ids (wanted_rows wanted front ++ row ∷ wanted_rows wanted rest) (picked wanted objects)
  of_one front row rest rows objects is among are =
      subst (λ (l : List ByteRow). AreObjects ids (wanted_rows wanted front ++ l) (picked wanted objects)) (rw among refl)
      (of_both front (row ∷ rest) rows objects is are)

-- ---- what the sink of objects is given

module _ {T E : Type 0} (takes : T → IdSize → FactValue → T → Type 0) (refuses : T → IdSize → FactValue → E → T → Type 0)
    (wanted : List ℕ) where
  -- it stays the same sink
  pub same_picked : (lists : List (List ByteRow)) (r : Result (Unit {0}) (ObjectFault (RowRefusal E))) (old new : RowDecoder T)
      → Picks (GivesObject takes) (GivesNone refuses) wanted lists r old new → AreOverSame old new
  same_picked lists r old new =
      unchanged.same_picked (GivesObject takes) (GivesNone refuses) AreOverSame (λ it. (refl, refl)) (same_then takes refuses)
      (λ old key bytes new gives. gives.over) (λ old key bytes fault new gives. gives.0) wanted lists r old new

  module _ (ids : IdSize) (lists : List (List ByteRow)) (old new : RowDecoder T) (size : old.ids ≡ ids) where
    size_then : (row : ByteRow) (refusal : RowRefusal E)
        → (refused : RefusesWanted (GivesObject takes) (GivesNone refuses) wanted lists row refusal old new) → refused.mid.ids ≡ ids
    size_then row refusal refused = (same_run takes refuses old _ refused.mid refused.run).0 ∙ size

    -- where each row spells an object, none is refused as spelling none
    pub none_refused : ((row : ByteRow) → AnyHas lists row → (object : FactValue) × SpellsObject ids row.1 object)
        → (row : ByteRow) → RefusesWanted (GivesObject takes) (GivesNone refuses) wanted lists row refusals.NoObject old new → ⊥
    none_refused spelled row refused =
        let object = spelled row ((refused.union.same row).0 (append-last refused.front row)).0 in
        refused.refused.1.1 object.0
        (subst (λ (i : IdSize). SpellsObject i row.1 object.0) (sym (size_then row refusals.NoObject refused)) object.1)

    module _ (rows : List ByteRow) (objects : List FactValue) (union : IsUnion lists rows) (are : AreObjects ids rows objects) where
      -- all that are wanted
      pub merged : PicksAll (GivesObject takes) wanted lists old new
          → TakesObjects takes ids (sink_under old) (picked wanted objects) (sink_under new)
      merged taken =
          all_taken takes refuses ids old new (wanted_rows wanted rows) (picked wanted objects) size
          (wanted_objects ids wanted rows objects are)
          (subst (λ (l : List ByteRow). Runs (GivesObject takes) old (wanted_rows wanted l) new)
          (union_unique lists taken.all rows taken.union union) taken.run)

      -- the first of them
      below : (bound : ℕ) → PicksBelow (GivesObject takes) wanted lists bound old new
          → TakesFront takes ids (picked wanted objects) (sink_under old) (sink_under new)
      below bound taken =
          let cut = union_front lists bound taken.front rows taken.union union in
          let it = split_objects ids (wanted_rows wanted taken.front) (wanted_rows wanted cut.0) (picked wanted objects)
          (of_both ids wanted taken.front cut.0 rows objects cut.1 are) in
          record {
            front = it.mine;
            behind = it.behind;
            are = it.all;
            took = all_taken takes refuses ids old new (wanted_rows wanted taken.front) it.mine size it.are taken.run;
          }

      -- the object of the row that was refused
      refused_at : (row : ByteRow) (refusal : RowRefusal E)
          → (refused : RefusesWanted (GivesObject takes) (GivesNone refuses) wanted lists row refusal old new)
          → IsObjectAt ids (wanted_rows wanted refused.front) row (picked wanted objects)
      refused_at row refusal refused =
          let cut = union_front lists (row.0 + 1) (refused.front ++ row ∷ []) rows refused.union union in
          object_at ids (wanted_rows wanted refused.front) row (wanted_rows wanted cut.0) (picked wanted objects)
          (of_one ids wanted refused.front row cut.0 rows objects (cut.1 ∙ append_assoc refused.front (row ∷ []) cut.0)
          refused.is_wanted are)

      no_object : (row : ByteRow) → RefusesWanted (GivesObject takes) (GivesNone refuses) wanted lists row refusals.NoObject old new → ⊥
      no_object row refused =
          let at = refused_at row refusals.NoObject refused in
          refused.refused.1.1 at.object
          (subst (λ (i : IdSize). SpellsObject i row.1 at.object) (sym (size_then row refusals.NoObject refused)) at.spells)

      object_refused : (row : ByteRow) (fault : E)
          → RefusesWanted (GivesObject takes) (GivesNone refuses) wanted lists row (refusals.Sink fault) old new
          → RefusesObject takes refuses ids (picked wanted objects) fault (sink_under old) (sink_under new)
      object_refused row fault refused =
          let at = refused_at row (refusals.Sink fault) refused in
          let sized = size_then row (refusals.Sink fault) refused in
          let mid = refused.mid in
          let it = refused.refused.1 in
          let one : it.0 ≡ at.object =
          one_spelled ids row.1 it.0 at.object (subst (λ (i : IdSize). SpellsObject i row.1 it.0) sized it.1) at.spells in
          record {
            front = at.before;
            object = at.object;
            behind = at.behind;
            are = at.all;
            mid = sink_under mid;
            took = all_taken takes refuses ids old mid (wanted_rows wanted refused.front) at.before size at.are refused.run;
            refused = subst (λ (o : FactValue). refuses (sink_under mid) ids o fault (sink_under new)) one
                (subst (λ (i : IdSize). refuses (sink_under mid) i it.0 fault (sink_under new)) sized it.2);
          }

      -- picking that stopped
      pub stopped : (stop : ObjectFault (RowRefusal E)) → StopsPicking (GivesObject takes) (GivesNone refuses) wanted lists stop old new
          → Passes takes refuses ids {A = Unit {0}} (picked wanted objects) (Err (pass_stop stop)) (sink_under old) (sink_under new)
      stopped stops.OutOfMemory front = below front.0 front.1
      stopped (stops.TwoContents id) front = below id front.1
      stopped (stops.Scratch fault) front = below front.0 front.1
      stopped (stops.Part part fault) front = below front.0 front.1
      stopped (stops.Sink refusals.NoObject) refused = absurd (no_object refused.0 refused.1)
      stopped (stops.Sink (refusals.Sink fault)) refused = object_refused refused.0 fault refused.1

-- ---- what picking tells of the parts

module _ {S P T E : Type 0} (written : S → Option (List ℕ)) (health : S → Health) (bytes : P → List (Option (List ℕ)))
    (unreadable : S → Type 0) (takes : T → IdSize → FactValue → T → Type 0) (refuses : T → IdSize → FactValue → E → T → Type 0)
    (it : InParts S P) (wanted : List ℕ) (old new : RowDecoder T) where
  pub told_by : (ids : IdSize) (facts : List FactValue) (size : old.ids ≡ ids) (stop : ObjectFault (RowRefusal E))
      → ((reads : List PartRead) → AreAsRead written health bytes it reads
      → StopsPicking (GivesObject takes) (GivesNone refuses) wanted (objects_of reads) stop old new)
      → TellsChange written health (limits_under it) (bytes (parts_under it)) (objects_under it) stop
      → IfScratchFails stop (unreadable (scratch_under (objects_under it)))
      → IfLost (TellsPass written health bytes unreadable it ids facts) (pass_stop stop)
  told_by ids facts size stops.OutOfMemory within changed fails = tt
  told_by ids facts size (stops.TwoContents id) within changed fails = λ reads as_read. (within reads as_read).0
  told_by ids facts size (stops.Scratch fault) within changed fails = (fails, changed)
  told_by ids facts size (stops.Part part fault) within changed fails = changed
  told_by ids facts size (stops.Sink refusals.NoObject) within changed fails = λ reads as_read spelled.
      let refused = within reads as_read in
      none_refused takes refuses wanted ids (objects_of reads) old new size spelled refused.0 refused.1
  told_by ids facts size (stops.Sink (refusals.Sink fault)) within changed fails = tt

  -- facts that the objects make up
  module _ (ids : IdSize) (facts all : List FactValue) (make : MakeUp written health bytes it ids facts all) (size : old.ids ≡ ids)
      (was now : T) (begins : sink_under old ≡ was) (ends : now ≡ sink_under new) where
    pub all_given : PicksAll (GivesObject takes) wanted (objects_of make.reads) old new
        → TakesObjects takes ids was (picked wanted (objects_among all)) now
    all_given taken =
        subst (λ (l : List FactValue). TakesObjects takes ids was (picked wanted l) now) (sym make.among)
        (subst (λ (t : T). TakesObjects takes ids was (picked wanted make.objects) t) (sym ends)
        (subst (λ (t : T). TakesObjects takes ids t (picked wanted make.objects) (sink_under new)) begins
        (merged takes refuses wanted ids (objects_of make.reads) old new size make.rows make.objects make.union make.are taken)))

    pub some_given : (stop : ObjectFault (RowRefusal E)) (why : PassFault E InPartsFault) → why ≡ pass_stop stop
        → StopsPicking (GivesObject takes) (GivesNone refuses) wanted (objects_of make.reads) stop old new
        → Passes takes refuses ids {A = Unit {0}} (picked wanted (objects_among all)) (Err why) was now
    some_given stop why is within =
        let passes : T → List FactValue → T → Type 0 =
        λ (from : T) (objects : List FactValue) (to : T). Passes takes refuses ids {A = Unit {0}} (picked wanted objects)
        (Err (pass_stop stop)) from to in
        subst (λ (w : PassFault E InPartsFault). Passes takes refuses ids {A = Unit {0}} (picked wanted (objects_among all))
        (Err w) was now)
        (sym is)
        (subst (λ (l : List FactValue). passes was l now) (sym make.among)
        (subst (λ (t : T). passes was make.objects t) (sym ends)
        (subst (λ (t : T). passes t make.objects (sink_under new)) begins
        (stopped takes refuses wanted ids (objects_of make.reads) old new size make.rows make.objects make.union make.are stop within))))
