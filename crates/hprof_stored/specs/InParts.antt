-- The objects of parts, as a pass reads them again.
use Rattle.std.specs.Prelude.{◌≡◌, ◌≤◌, ◌^◌, ℕ, List, ◌++◌, length, map, Option, Some, IsSome, ⊤}
use Rattle.hprof_values.specs.declared.ids.IdSize.{IdSize}
use Rattle.hprof_items.specs.FactValue.{FactValue}
use Rattle.hprof_devices.specs.declared.health.Health.{Health}
use Rattle.hprof_stream.specs.declared.limits.Limits.{Limits}
use Rattle.hprof_merge.specs.Rows.{ByteRow}
use Rattle.hprof_merge.specs.TwoContents.{IsLeastWithTwoContents}
use Rattle.hprof_merge.specs.Union.{AnyHas, IsUnion}
use Rattle.hprof_runs.specs.RunFault.{IfDamaged, IfReadFailed}
use Rattle.hprof_objects.specs.declared.object_fault.ObjectFault.{ObjectFault}
use Rattle.hprof_objects.specs.declared.object_fault.ObjectFault.TheVariants as stops
use Rattle.hprof_objects.specs.declared.stored_objects.StoredObjects.{StoredObjects}
use Rattle.hprof_objects.specs.Log.{HoldsParts}
use Rattle.hprof_objects.specs.PartsRead.{PartRead}
use Rattle.hprof_objects.specs.ReadAgain.{IsSameAt}
use Rattle.hprof_objects.specs.StoredObjects.{AreToldAgain, HoldsObjects, objects_of, scratch_under}
use Rattle.hprof_objects.specs.StretchFault.{ByFault}
use Rattle.hprof_objects.specs.Whole.{AreObjects}
use Rattle.hprof_engine.specs.Joining.{Tell}
use Rattle.hprof_passes.specs.declared.pass_fault.PassFault.{PassFault}
use Rattle.hprof_passes.specs.declared.pass_fault.PassFault.TheVariants as passes
use Rattle.hprof_passes.specs.Passing.{IsWhole, objects_among}
use Rattle.hprof_stored.specs.declared.in_parts.InParts.{InParts}
use Rattle.hprof_stored.specs.declared.in_parts_fault.InPartsFault.{InPartsFault}
use Rattle.hprof_stored.specs.declared.in_parts_fault.InPartsFault.TheVariants as faults
use Rattle.hprof_stored.specs.declared.row_decoder.RowRefusal.{RowRefusal}
use Rattle.hprof_stored.specs.declared.row_decoder.RowRefusal.TheVariants as rows
use Rattle.hprof_stored.specs.declared.stored_heap.StoredHeap.{StoredHeap}
use Rattle.hprof_stored.specs.Reading.{HoldsHeap}
use Rattle.hprof_stored.specs.RowDecoder.{SpellsObject}

-- the stored objects, the parts, and the limits of the first reading
abbrev pub objects_under : {S P : Type 0} → InParts S P → StoredObjects S
objects_under it = it.objects.now

abbrev pub parts_under : {S P : Type 0} → InParts S P → P
parts_under it = it.parts.now

abbrev pub limits_under : {S P : Type 0} → InParts S P → Limits
limits_under it = it.limits

-- why a pass stops, where a merge into a sink of rows stopped
abbrev pub pass_stop : {E : Type 0} → ObjectFault (RowRefusal E) → PassFault E InPartsFault
pass_stop stops.OutOfMemory = passes.Lost faults.OutOfMemory
pass_stop (stops.TwoContents id) = passes.Lost (faults.TwoContents id)
pass_stop (stops.Scratch fault) = passes.Lost (faults.Scratch fault)
pass_stop (stops.Part part fault) = passes.Lost (faults.Part part fault)
pass_stop (stops.Sink rows.NoObject) = passes.Lost faults.NoObject
pass_stop (stops.Sink (rows.Sink fault)) = passes.Sink fault

-- why the objects cannot be counted, where a merge into a counter stopped
abbrev pub count_stop : {E : Type 0} → ObjectFault E → InPartsFault
count_stop stops.OutOfMemory = faults.OutOfMemory
count_stop (stops.TwoContents id) = faults.TwoContents id
count_stop (stops.Scratch fault) = faults.Scratch fault
count_stop (stops.Part part fault) = faults.Part part fault
count_stop (stops.Sink fault) = faults.TooMany

module _ {S P : Type 0} (written : S → Option (List ℕ)) (health : S → Health) (bytes : P → List (Option (List ℕ))) where
  -- these parts were read, each is as it was, and the scratch tells its bytes
  abbrev pub AreAsRead : InParts S P → List PartRead → Type 0
  AreAsRead it reads = AreToldAgain written health (limits_under it) (bytes (parts_under it)) reads (objects_under it)

  -- no identifier has two contents: the objects of the parts have a union
  abbrev pub HaveUnion : InParts S P → Type 0
  HaveUnion it = (reads : List PartRead) → AreAsRead it reads → (rows : List ByteRow) × IsUnion (objects_of reads) rows

  -- the union has so many objects
  abbrev pub AreSoMany : InParts S P → ℕ → Type 0
  AreSoMany it count = (reads : List PartRead) → AreAsRead it reads → (rows : List ByteRow) → IsUnion (objects_of reads) rows
      → count ≡ length rows

  -- the objects of the parts, each once, stand behind these facts, and all of them are the facts of a heap
  pub record MakeUp (it : InParts S P) (ids : IdSize) (facts all : List FactValue) : Type 0 where
    pub reads : List PartRead
    pub as_read : AreAsRead it reads
    pub rows : List ByteRow
    pub union : IsUnion (objects_of reads) rows
    pub objects : List FactValue
    pub are : AreObjects ids rows objects
    pub behind : all ≡ facts ++ objects
    pub among : objects_among all ≡ objects
    pub whole : IsWhole ids facts all

  -- what a fault tells of the parts: the least identifier with two contents; the scratch cannot be read, or does not hold what was written;
  -- the part is not as it was read; not every row of the parts spells an object; there are too many objects
  abbrev pub TellsPass : (S → Type 0) → InParts S P → IdSize → List FactValue → InPartsFault → Type 0
  TellsPass unreadable it ids facts faults.OutOfMemory = ⊤
  TellsPass unreadable it ids facts (faults.TwoContents id) =
      (reads : List PartRead) → AreAsRead it reads → IsLeastWithTwoContents (objects_of reads) id
  TellsPass unreadable it ids facts (faults.Scratch fault) =
      IfReadFailed fault (unreadable (scratch_under (objects_under it)))
      × IfDamaged fault ((reads : List PartRead) → HoldsObjects written health (limits_under it) reads (objects_under it) → ⊥)
  TellsPass unreadable it ids facts (faults.Part part fault) =
      ByFault fault ⊤ ((reads : List PartRead) → HoldsObjects written health (limits_under it) reads (objects_under it)
      → IsSameAt (limits_under it) (bytes (parts_under it)) reads part → ⊥)
  TellsPass unreadable it ids facts faults.NoObject =
      (reads : List PartRead) → AreAsRead it reads
      → ((row : ByteRow) → AnyHas (objects_of reads) row → (object : FactValue) × SpellsObject ids row.1 object) → ⊥
  TellsPass unreadable it ids facts faults.TooMany = (all : List FactValue) → MakeUp it ids facts all → 2 ^ 64 ≤ length (objects_among all)

-- with which faults a pass ends, where the parts are as they were read and the scratch tells its bytes
abbrev pub IsOfSame : InPartsFault → Type 0
IsOfSame faults.OutOfMemory = ⊤
IsOfSame (faults.TwoContents id) = ⊤
IsOfSame (faults.Scratch fault) = IfDamaged fault ⊥
IsOfSame (faults.Part part fault) = ByFault fault ⊤ ⊥
IsOfSame faults.NoObject = ⊥
IsOfSame faults.TooMany = ⊤

-- the readers told these parts, which are the same when they are opened again, and the scratch told its bytes: these are the objects that
-- were stored when the readers were read
--   scratch: the bytes of the scratch at first
pub record AreStoredOf {R S P : Type 0} (left : R → Option (List ℕ)) (written : S → Option (List ℕ)) (health : S → Health)
    (bytes : P → List (Option (List ℕ))) (readers : List R) (scratch : Option (List ℕ)) (stored : StoredHeap S) (it : InParts S P)
    (told : List (List ℕ)) : Type 0 where
  pub tell : Tell left readers told
  pub holds : HoldsHeap written health (limits_under it) (map left readers) scratch stored
  pub finished : (reads : List PartRead) → HoldsParts written health (limits_under it) reads stored.objects
      → HoldsObjects written health (limits_under it) reads (objects_under it)
  pub same : bytes (parts_under it) ≡ map Some told
  pub scratch_tells : IsSome scratch
