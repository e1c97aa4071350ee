-- The facts on which parts agree: those of the heap without objects, and the stored objects behind them.
use Rattle.std.proofs.Common.{◌≡◌, ℕ, false, List, [], ◌∷◌, ◌++◌, length, map, take, Option, Some, Ok, refl, sym, ap, subst}
use Rattle.std.specs.Prelude.{⊤}
use Rattle.std.specs.List.{AllByRecursion}
use Rattle.hprof_values.specs.declared.ids.IdSize.{IdSize}
use Rattle.hprof_items.specs.FactValue.{FactValue}
use Rattle.hprof_devices.specs.declared.health.Health.{Health}
use Rattle.hprof_rows.specs.declared.key.Key.TheVariants as keys
use Rattle.hprof_rows.specs.Facts.{Has, SameFacts}
use Rattle.hprof_rows.specs.HeapValue.{HeapValue}
use Rattle.hprof_rows.specs.Order.{IsCanonicalOrder}
use Rattle.hprof_heap.specs.Gathering.{Given, Tells, all_given}
use Rattle.hprof_heap.specs.Heap.{heap_of}
use Rattle.hprof_heap.specs.State.{IsLeastOf}
use Rattle.hprof_merge.specs.Rows.{ByteRow}
use Rattle.hprof_merge.specs.TwoContents.{IsLeastWithTwoContents}
use Rattle.hprof_merge.specs.Union.{AnyHas, IsUnion}
use Rattle.hprof_runs.specs.declared.run_fault.RunFault.{RunFault}
use Rattle.hprof_runs.specs.declared.run_fault.RunFault.TheVariants as runs
use Rattle.hprof_runs.specs.RunFault.{IfDamaged}
use Rattle.hprof_objects.specs.declared.stretch_fault.StretchFault.{StretchFault}
use Rattle.hprof_objects.specs.declared.stretch_fault.StretchFault.TheVariants as stretches
use Rattle.hprof_objects.specs.ObjectRows.{object_rows}
use Rattle.hprof_objects.specs.PartsRead.{PartRead}
use Rattle.hprof_objects.specs.ReadAgain.{IsSameAt}
use Rattle.hprof_objects.specs.StoredObjects.{HoldsObjects, objects_of}
use Rattle.hprof_objects.specs.StretchFault.{ByFault}
use Rattle.hprof_objects.specs.Whole.{AreObjects, FitGiven, is_object, rows_given, with_objects, without_objects}
use Rattle.hprof_objects.proofs.Whole.{fact_given}
use Rattle.hprof_objects.proofs.WholeHeap.{fits_given}
use Rattle.hprof_engine.specs.Joining.{Agree, AreGiven, Disagree}
use Rattle.hprof_engine.specs.Outcome.{ComesTo, OneHeap, Outcome}
use Rattle.hprof_engine.proofs.Answers.{agree, disagree, given_by_parts}
use Rattle.hprof_engine.proofs.PartByPart.{say_together}
use Rattle.hprof_engine.proofs.Stated.{given_state}
use Rattle.hprof_engine.proofs.Together.{together_once}
use Rattle.hprof_stored.specs.declared.in_parts.InParts.{InParts}
use Rattle.hprof_stored.specs.declared.in_parts_fault.InPartsFault.{InPartsFault}
use Rattle.hprof_stored.specs.declared.in_parts_fault.InPartsFault.TheVariants as faults
use Rattle.hprof_stored.specs.declared.stored_heap.StoredHeap.{StoredHeap}
use Rattle.hprof_stored.specs.InParts.{AreAsRead, AreStoredOf, HaveUnion, IsOfSame, MakeUp, TellsPass}
use Rattle.hprof_stored.specs.InParts.{limits_under, objects_under, parts_under}
use Rattle.hprof_stored.specs.Parts.{AreStored, PartStored, all_read, given_of}
use Rattle.hprof_stored.specs.RowDecoder.{SpellsObject}
use Rattle.hprof_stored.proofs.ObjectSpelling.{row_spells}
use Rattle.hprof_stored.proofs.Joined.{ComeLast, StandBehind, TellWhole, by_all, by_parts, fits, rows_same, same_ids, told_again}
use Rattle.hprof_stored.proofs.ObjectTable.{among_all, no_object_given, other_tables}

-- the objects among facts in canonical order, which are those of parts, are the union of the objects of the parts
abbrev pub InOrder : Type 0
InOrder = (parts : List Given) (ids : IdSize) (facts : List FactValue) → AllByRecursion (λ part. part.header.ids ≡ ids) parts
    → IsCanonicalOrder facts → SameFacts facts (all_given parts) → IsUnion (map rows_given parts) (object_rows ids facts)

-- parts come to one thing
abbrev pub ComeToOne : Type 0
ComeToOne = (parts : List (List ℕ)) (one other : Outcome) → ComesTo parts one → ComesTo parts other → one ≡ other

-- without objects, parts have the same times
same_times : (parts : List Given) → map (λ part. part.header.millis) (map without_objects parts) ≡ map (λ part. part.header.millis) parts
same_times [] = refl
same_times (part ∷ parts) = ap (λ (times : List ℕ). part.header.millis ∷ times) (same_times parts)

module _ {R S P : Type 0} (left : R → Option (List ℕ)) (written : S → Option (List ℕ)) (health : S → Health)
    (bytes : P → List (Option (List ℕ))) (readers : List R) (scratch : Option (List ℕ)) (stored : StoredHeap S) (it : InParts S P)
    (told : List (List ℕ)) (are : AreStoredOf left written health bytes readers scratch stored it told) where
  abbrev pub heap : HeapValue
  heap = heap_of stored.heap

  abbrev pub parts : List PartStored
  parts = are.holds.parts

  abbrev pub given : List Given
  given = given_of parts

  all_stored : AreStored (limits_under it) (map Some told) parts
  all_stored =
      by_parts left (limits_under it) readers parts are.holds.stored are.holds.given heap are.holds.tells told are.tell

  pub as_read : AreAsRead written health bytes it (all_read parts)
  as_read =
      told_again (limits_under it) written health told parts (bytes (parts_under it)) (objects_under it) are.same all_stored
      (are.finished (all_read parts) (are.holds.objects are.scratch_tells))

  pub fit : FitGiven given
  fit = fits (limits_under it) told parts all_stored

  pub sizes : AllByRecursion (λ part. part.header.ids ≡ heap.ids) given
  sizes = same_ids heap.ids given are.holds.tells.0

  given_all : AreGiven (limits_under it) (map left (take (length readers) readers)) given
  given_all = by_all left (limits_under it) readers parts are.holds.stored are.holds.given heap are.holds.tells told are.tell

  module _ (behind : StandBehind) (whole : TellWhole) (rows : List ByteRow) (union : IsUnion (objects_of (all_read parts)) rows) where
    same_union : IsUnion (map rows_given given) rows
    same_union = subst (λ (l : List (List ByteRow)). IsUnion l rows) (rows_same parts) union

    pub stored_objects : (objects : List FactValue) × AreObjects heap.ids rows objects
    stored_objects = behind given heap.ids rows sizes fit same_union

    tells_all : Tells given (Ok (with_objects heap stored_objects.0))
    tells_all = whole given heap rows stored_objects.0 are.holds.tells fit same_union stored_objects.1

    pub agreed : Agree told heap.ids heap.millis (heap.facts ++ stored_objects.0)
    agreed = agree left (limits_under it) readers given given_all told are.tell (with_objects heap stored_objects.0) tells_all

    pub made_up : MakeUp written health bytes it heap.ids heap.facts (heap.facts ++ stored_objects.0)
    made_up =
        let none : (fact : FactValue) → Has heap.facts fact → is_object fact ≡ false =
        λ fact has. no_object_given given fact ((are.holds.tells.3 fact).0 has) in
        record {
          reads = all_read parts;
          as_read = as_read;
          rows = rows;
          union = union;
          objects = stored_objects.0;
          are = stored_objects.1;
          behind = refl;
          among = among_all heap.ids heap.facts stored_objects.0 rows stored_objects.1 none;
          whole = record {
            others = other_tables heap.ids heap.facts stored_objects.0 rows stored_objects.1 none;
            fit = tells_all.4.fit;
            ordered = tells_all.4.ordered;
          };
        }

  -- ---- the laws

  -- objects that have a union
  pub union_agrees : StandBehind → TellWhole → HaveUnion written health bytes it
      → (all : List FactValue) × Agree told heap.ids heap.millis all
  union_agrees behind whole have =
      let it = have (all_read parts) as_read in (_, agreed behind whole it.0 it.1)

  -- each row of the parts spells an object
  rows_spelled : (row : ByteRow) → AnyHas (objects_of (all_read parts)) row → (object : FactValue) × SpellsObject heap.ids row.1 object
  rows_spelled row has =
      let of_fact = fact_given heap.ids given row sizes (subst (λ (l : List (List ByteRow)). AnyHas l row) (rows_same parts) has) in
      (of_fact.fact, row_spells heap.ids of_fact.fact row (fits_given heap.ids given of_fact.fact sizes fit of_fact.has) of_fact.is)

  -- a damage, if it is one, is of a scratch that does not hold the objects
  not_damaged : (fault : RunFault)
      → IfDamaged fault ((reads : List PartRead) → HoldsObjects written health (limits_under it) reads (objects_under it) → ⊥)
      → IfDamaged fault ⊥
  not_damaged runs.OutOfMemory damaged = tt
  not_damaged runs.Read damaged = tt
  not_damaged runs.Damaged damaged = damaged (all_read parts) as_read.holds

  -- a change, if it is one, is of a part that is not the same
  not_changed : (part : ℕ) (fault : StretchFault)
      → ByFault fault ⊤ ((reads : List PartRead) → HoldsObjects written health (limits_under it) reads (objects_under it)
      → IsSameAt (limits_under it) (bytes (parts_under it)) reads part → ⊥) → ByFault fault ⊤ ⊥
  not_changed part stretches.OutOfMemory changed = tt
  not_changed part stretches.Read changed = tt
  not_changed part stretches.Changed changed = changed (all_read parts) as_read.holds (as_read.same part)

  pub faults_of_same : (unreadable : S → Type 0) (fault : InPartsFault)
      → TellsPass written health bytes unreadable it heap.ids heap.facts fault → IsOfSame fault
  faults_of_same unreadable faults.OutOfMemory tells = tt
  faults_of_same unreadable (faults.TwoContents id) tells = tt
  faults_of_same unreadable (faults.Scratch fault) tells = not_damaged fault tells.1
  faults_of_same unreadable (faults.Part part fault) tells = not_changed part fault tells
  faults_of_same unreadable faults.NoObject tells = tells (all_read parts) as_read rows_spelled
  faults_of_same unreadable faults.TooMany tells = tt

  -- objects with two contents
  pub contents_disagree : ComeLast → (id : ℕ) → IsLeastWithTwoContents (objects_of (all_read parts)) id → Disagree told (keys.Object id)
  contents_disagree last id least =
      disagree left (limits_under it) readers given given_all told are.tell (keys.Object id)
      (last given heap id are.holds.tells fit
      (subst (λ (l : List (List ByteRow)). IsLeastWithTwoContents l id) (rows_same parts) least))

  -- facts on which the parts agree
  module _ (in_order : InOrder) (behind : StandBehind) (whole : TellWhole) (one : ComeToOne) (ids : IdSize) (millis : ℕ)
      (all : List FactValue) (agreement : Agree told ids millis all) where
    same_facts : SameFacts all (all_given given)
    same_facts =
        let state = given_state (limits_under it) told given heap.ids heap.millis (all_given given)
        (given_by_parts left (limits_under it) readers given given_all told are.tell) sizes
        (subst (λ (times : List ℕ). IsLeastOf times heap.millis) (same_times given) are.holds.tells.1) (λ fact. (λ has. has, λ has. has)) in
        (together_once told ids heap.ids millis heap.millis all (all_given given) (say_together told ids millis all agreement.state)
        (say_together told heap.ids heap.millis (all_given given) state)).1

    pub all_union : IsUnion (objects_of (all_read parts)) (object_rows heap.ids all)
    all_union =
        subst (λ (l : List (List ByteRow)). IsUnion l (object_rows heap.ids all)) (sym (rows_same parts))
        (in_order given heap.ids all sizes agreement.ordered same_facts)

    same_heap : OneHeap ids millis all
        ≡ OneHeap heap.ids heap.millis (heap.facts ++ (stored_objects behind whole (object_rows heap.ids all) all_union).0)
    same_heap =
        one told (OneHeap ids millis all)
        (OneHeap heap.ids heap.millis (heap.facts ++ (stored_objects behind whole (object_rows heap.ids all) all_union).0)) agreement
        (agreed behind whole (object_rows heap.ids all) all_union)

    pub agreed_made_up : (ids ≡ heap.ids) × (millis ≡ heap.millis) × MakeUp written health bytes it heap.ids heap.facts all
    agreed_made_up =
        let rows = object_rows heap.ids all in
        let facts = heap.facts ++ (stored_objects behind whole rows all_union).0 in
        let same = same_heap in
        let size : ids ≡ heap.ids = cc in
        let time : millis ≡ heap.millis = cc in
        let alike : all ≡ facts = cc in (
          size,
          time,
          subst (MakeUp written health bytes it heap.ids heap.facts) (sym alike) (made_up behind whole rows all_union),
        )
