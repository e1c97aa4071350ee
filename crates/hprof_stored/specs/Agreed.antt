-- The objects of parts, of which no identifier has two contents.
use Rattle.std.specs.Prelude.{ℕ, List, Option}
use Rattle.hprof_devices.specs.declared.health.Health.{Health}
use Rattle.hprof_merge.specs.TwoContents.{HasTwoContents}
use Rattle.hprof_objects.specs.PartsRead.{PartRead}
use Rattle.hprof_objects.specs.StoredObjects.{objects_of}
use Rattle.hprof_stored.specs.declared.in_parts.InParts.{InParts}
use Rattle.hprof_stored.specs.InParts.{AreAsRead}

-- no identifier of the objects has two contents
abbrev pub HaveOneContent : {S P : Type 0} → (S → Option (List ℕ)) → (S → Health) → (P → List (Option (List ℕ))) → InParts S P → Type 0
HaveOneContent written health bytes it =
    (reads : List PartRead) → AreAsRead written health bytes it reads → (key : ℕ) → HasTwoContents (objects_of reads) key → ⊥
