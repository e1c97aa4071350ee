-- Whether objects have two contents.
use Rattle.std.proofs.Common.{ℕ, List, Result, Ok, Err}
use Rattle.std.specs.Prelude.{⊤, IfErr, OnOk}
use Rattle.hprof_merge.specs.Rows.{ByteRow}
use Rattle.hprof_merge.specs.Union.{IsUnion}
use Rattle.hprof_segments.specs.declared.segment_fault.SegmentFault.{SegmentFault}
use Rattle.hprof_objects.specs.declared.object_fault.ObjectFault.{ObjectFault}
use Rattle.hprof_objects.specs.declared.object_fault.ObjectFault.TheVariants as stops
use Rattle.hprof_objects.specs.MergedObjects.{MergesLists}
use Rattle.hprof_objects.specs.PartsRead.{PartRead}
use Rattle.hprof_objects.specs.StoredObjects.{objects_of}
use Rattle.hprof_stored.specs.Dumping.{FindsLeast}

-- why a merge stops, whose sink refuses no row
pub finds : {T : Type 0} (steps : T → ℕ → List ℕ → T → Type 0) (lists : List (List ByteRow)) (stop : ObjectFault SegmentFault) (old new : T)
    → MergesLists {T = T} steps {A = Unit {0}} {G = SegmentFault} (λ old key bytes fault new. ⊥) lists (Err stop) old new
    → FindsLeast lists stop
finds steps lists stops.OutOfMemory old new merged = tt
finds steps lists (stops.TwoContents key) old new merged = merged.0
finds steps lists (stops.Scratch fault) old new merged = tt
finds steps lists (stops.Part part fault) old new merged = tt
finds steps lists (stops.Sink fault) old new merged = merged.1.refused

module _ {T : Type 0} (Told : List PartRead → Type 0) (old new : T) where
  pub none_found : (r : Result (Unit {0}) (ObjectFault SegmentFault)) → ((reads : List PartRead) → Told reads
      → MergesLists {T = T} (λ old key bytes new. ⊤) {G = SegmentFault} (λ old key bytes fault new. ⊥) (objects_of reads) r old new)
      → OnOk r ((reads : List PartRead) → Told reads → (rows : List ByteRow) × IsUnion (objects_of reads) rows)
  none_found (Ok done) merged = λ reads told. let it = merged reads told in (it.all, it.union)
  none_found (Err stop) merged = tt

  pub least_found : (r : Result (Unit {0}) (ObjectFault SegmentFault)) → ((reads : List PartRead) → Told reads
      → MergesLists {T = T} (λ old key bytes new. ⊤) {G = SegmentFault} (λ old key bytes fault new. ⊥) (objects_of reads) r old new)
      → IfErr r (λ stop. (reads : List PartRead) → Told reads → FindsLeast (objects_of reads) stop)
  least_found (Ok done) merged = tt
  least_found (Err stop) merged = λ reads told. finds (λ old key bytes new. ⊤) (objects_of reads) stop old new (merged reads told)
