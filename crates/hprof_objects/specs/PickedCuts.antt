-- What a stop tells where objects are picked from cuts.
use Rattle.std.specs.Prelude.{◌≡◌, ℕ, List, Option, ⊤}
use Rattle.hprof_devices.specs.declared.health.Health.{Health}
use Rattle.hprof_stream.specs.declared.limits.Limits.{Limits}
use Rattle.hprof_merge.specs.Rows.{ByteRow}
use Rattle.hprof_objects.specs.declared.cut.Cut.{Cut}
use Rattle.hprof_objects.specs.declared.object_fault.ObjectFault.{ObjectFault}
use Rattle.hprof_objects.specs.declared.object_fault.ObjectFault.TheVariants.{OutOfMemory, TwoContents, Scratch, Part, Sink}
use Rattle.hprof_objects.specs.declared.stretch_cursor.StretchCursor.{StretchCursor}
use Rattle.hprof_objects.specs.Cuts.{AreCuts}
use Rattle.hprof_objects.specs.PartsRead.{PartRead}
use Rattle.hprof_objects.specs.ReadAgain.{IsSameAt}
use Rattle.hprof_objects.specs.StretchFault.{ByFault}
use Rattle.hprof_objects.specs.StretchKnown.{StretchComes}

-- no cut has objects with two contents or in scratch; a change: that part, of one of the cuts, is not the same as when it was read
--   told: the bytes of each part now, where they are told
abbrev pub TellsCuts : {G : Type 0} → Limits → List (Option (List ℕ)) → List Cut → ObjectFault G → Type 0
TellsCuts limits told cuts OutOfMemory = ⊤
TellsCuts limits told cuts (TwoContents key) = ⊥
TellsCuts limits told cuts (Scratch fault) = ⊥
TellsCuts limits told cuts (Part part fault) =
    ByFault fault ⊤ ((reads : List PartRead) (lists : List (List ByteRow)) → AreCuts limits reads cuts lists
    → IsSameAt limits told reads part → ⊥)
TellsCuts limits told cuts (Sink fault) = ⊤

-- the same of a cursor over a stretch of that part: a change: no rows come from it
abbrev pub TellsCursor : {R G : Type 0} → (R → Option (List ℕ)) → (R → Health) → (R → ℕ) → ℕ → StretchCursor R → ObjectFault G → Type 0
TellsCursor left health pulls part it OutOfMemory = ⊤
TellsCursor left health pulls part it (TwoContents key) = ⊥
TellsCursor left health pulls part it (Scratch fault) = ⊥
TellsCursor left health pulls part it (Part number fault) =
    (number ≡ part) × ByFault fault ⊤ ((rows : List ByteRow) → StretchComes left health pulls it rows → ⊥)
TellsCursor left health pulls part it (Sink fault) = ⊤
