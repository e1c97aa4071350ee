-- Counting the objects of parts.
use Rattle.std.proofs.Common.{◌≡◌, ◌≤◌, ◌+◌, ◌++◌, ◌^◌, ℕ, List, [], ◌∷◌, length, Option, sym, ap, ◌∙◌, arith, length-append}
use Rattle.hprof_values.specs.declared.ids.IdSize.{IdSize}
use Rattle.hprof_items.specs.FactValue.{FactValue}
use Rattle.hprof_devices.specs.declared.health.Health.{Health}
use Rattle.hprof_stream.specs.declared.limits.Limits.{Limits}
use Rattle.hprof_merge.specs.Rows.{ByteRow}
use Rattle.hprof_merge.specs.Merging.{RefusesRow, TakesAll}
use Rattle.hprof_merge.specs.Run.{Runs}
use Rattle.hprof_merge.specs.Union.{IsUnion}
use Rattle.hprof_merge.proofs.Unions.{union_front, union_unique}
use Rattle.hprof_objects.specs.declared.object_fault.ObjectFault.{ObjectFault}
use Rattle.hprof_objects.specs.declared.object_fault.ObjectFault.TheVariants as stops
use Rattle.hprof_objects.specs.MergedObjects.{IfScratchFails, StopsWithin, TellsChange}
use Rattle.hprof_objects.specs.PartsRead.{PartRead}
use Rattle.hprof_objects.specs.StoredObjects.{HoldsObjects, IsOneStretch, objects_of, scratch_under}
use Rattle.hprof_objects.proofs.OneStretch.{stretch_union}
use Rattle.hprof_passes.specs.Passing.{objects_among}
use Rattle.hprof_stored.specs.declared.in_parts.InParts.{InParts}
use Rattle.hprof_stored.specs.declared.row_counter.CountFull.{CountFull}
use Rattle.hprof_stored.specs.declared.row_counter.RowCounter.{RowCounter}
use Rattle.hprof_stored.specs.InParts.{AreAsRead, AreSoMany, HaveUnion, MakeUp, TellsPass, count_stop}
use Rattle.hprof_stored.specs.InParts.{limits_under, objects_under, parts_under}
use Rattle.hprof_stored.specs.RowCounter.{Counts, IsFull}
use Rattle.hprof_stored.proofs.ObjectSpelling.{as_many}

-- ---- a sink that counts

more_counted : (rows : List ByteRow) (old new : RowCounter) → Runs (λ old key bytes new. Counts old new) old rows new
    → new.count ≡ old.count + length rows
more_counted [] old new same = let one : old.count ≡ new.count = ap (λ (it : RowCounter). it.count) same in omega arith
more_counted (row ∷ rows) old new ran = omega (arith, more_counted rows ran.0 new ran.2, ran.1)

all_counted : (rows : List ByteRow) (old new : RowCounter) → old.count ≡ 0 → Runs (λ old key bytes new. Counts old new) old rows new
    → new.count ≡ length rows
all_counted rows old new none ran = omega (arith, more_counted rows old new ran, none)

-- all rows of the lists
pub lists_counted : (lists : List (List ByteRow)) (old new : RowCounter) → old.count ≡ 0
    → TakesAll (λ old key bytes new. Counts old new) lists old new → (rows : List ByteRow) → IsUnion lists rows → new.count ≡ length rows
lists_counted lists old new none took rows union =
    all_counted took.all old new none took.run ∙ ap length (union_unique lists took.all rows took.union union)

-- with the row that was refused there are too many
pub too_many : (lists : List (List ByteRow)) (row : ByteRow) (fault : CountFull) (old new : RowCounter) → old.count ≡ 0
    → RefusesRow (λ old key bytes new. Counts old new) (λ old key bytes fault new. IsFull old) lists row fault old new
    → (rows : List ByteRow) → IsUnion lists rows → 2 ^ 64 ≤ length rows
too_many lists row fault old new none it rows union =
    let rest = union_front lists (row.0 + 1) (it.front ++ row ∷ []) rows it.union union in
    omega (
      arith,
      ap length rest.1,
      length-append (it.front ++ row ∷ []) rest.0,
      length-append it.front (row ∷ []),
      all_counted it.front old it.mid none it.run,
      it.refused,
    )

-- ---- one stretch

module _ {S P : Type 0} (written : S → Option (List ℕ)) (health : S → Health) (bytes : P → List (Option (List ℕ))) (it : InParts S P) where
  pub stretch_counted : (count : ℕ) → ((limits : Limits) (reads : List PartRead) (rows : List ByteRow)
      → HoldsObjects written health limits reads (objects_under it) → IsUnion (objects_of reads) rows → count ≡ length rows)
      → AreSoMany written health bytes it count
  stretch_counted count counts reads as_read rows union = counts (limits_under it) reads rows as_read.holds union

  pub stretch_has_union : IsOneStretch (objects_under it) → HaveUnion written health bytes it
  stretch_has_union one = λ reads as_read.
      stretch_union written health (limits_under it) reads (objects_under it) one as_read.holds

  -- ---- facts

  -- the facts that the objects make up have so many
  pub made_counted : (count : ℕ) → AreSoMany written health bytes it count → (ids : IdSize) (facts all : List FactValue)
      → MakeUp written health bytes it ids facts all → count ≡ length (objects_among all)
  made_counted count many ids facts all make =
      many make.reads make.as_read make.rows make.union
      ∙ (as_many ids make.rows make.objects make.are ∙ ap length (sym make.among))

  pub made_too_many : ((reads : List PartRead) → AreAsRead written health bytes it reads → (rows : List ByteRow)
      → IsUnion (objects_of reads) rows → 2 ^ 64 ≤ length rows)
      → (ids : IdSize) (facts all : List FactValue) → MakeUp written health bytes it ids facts all → 2 ^ 64 ≤ length (objects_among all)
  made_too_many many ids facts all make =
      let long = many make.reads make.as_read make.rows make.union in
      let same : length make.rows ≡ length (objects_among all) =
      as_many ids make.rows make.objects make.are ∙ ap length (sym make.among) in
      omega (arith, long, same)

  -- ---- a merge that stopped

  -- what its stop tells
  pub tells_count : (unreadable : S → Type 0) (old new : RowCounter) → old.count ≡ 0 → (stop : ObjectFault CountFull)
      → ((reads : List PartRead) → AreAsRead written health bytes it reads
      → StopsWithin (λ old key bytes new. Counts old new) (λ old key bytes fault new. IsFull old) (objects_of reads) stop old new)
      → TellsChange written health (limits_under it) (bytes (parts_under it)) (objects_under it) stop
      → IfScratchFails stop (unreadable (scratch_under (objects_under it))) → (ids : IdSize) (facts : List FactValue)
      → TellsPass written health bytes unreadable it ids facts (count_stop stop)
  tells_count unreadable old new none stops.OutOfMemory within again read ids facts = tt
  tells_count unreadable old new none (stops.TwoContents id) within again read ids facts = λ reads as_read. (within reads as_read).0
  tells_count unreadable old new none (stops.Scratch fault) within again read ids facts = (read, again)
  tells_count unreadable old new none (stops.Part part fault) within again read ids facts = again
  tells_count unreadable old new none (stops.Sink fault) within again read ids facts =
      made_too_many
      (λ reads as_read rows union.
      let it = within reads as_read in too_many (objects_of reads) it.0 fault old new none it.1 rows union) ids facts
