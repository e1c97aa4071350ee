-- Cuts of stretches and of runs.
use Rattle.std.specs.Prelude.{◌≡◌, ◌⊎◌, ◌<◌, ◌≤◌, ℕ, List, [], ◌∷◌, Option, Some, ⊤}
use Rattle.hprof_devices.specs.declared.health.Health.{Health}
use Rattle.hprof_stream.specs.declared.limits.Limits.{Limits}
use Rattle.hprof_merge.specs.declared.one_of.OneOf.{OneOf}
use Rattle.hprof_merge.specs.declared.one_of.OneOf.TheVariants.{First, Second}
use Rattle.hprof_merge.specs.OneOf.{holds_either}
use Rattle.hprof_merge.specs.Rows.{ByteRow}
use Rattle.hprof_runs.specs.declared.run_cursor.RunCursor.{RunCursor}
use Rattle.hprof_runs.specs.declared.run_fault.RunFault.{RunFault}
use Rattle.hprof_runs.specs.Known.{comes_either}
use Rattle.hprof_runs.specs.RunCursor.{ComesTo, scratch_of_run}
use Rattle.hprof_runs.specs.RunCuts.{IsRunCut}
use Rattle.hprof_runs.specs.RunFault.{IfDamaged, IfReadFailed}
use Rattle.hprof_objects.specs.declared.any_cut.AnyCut.{AnyCut}
use Rattle.hprof_objects.specs.declared.any_cut.AnyCut.TheVariants.{InPart, InRun}
use Rattle.hprof_objects.specs.declared.object_fault.ObjectFault.{ObjectFault}
use Rattle.hprof_objects.specs.declared.object_fault.ObjectFault.TheVariants.{OutOfMemory, TwoContents, Scratch, Part, Sink}
use Rattle.hprof_objects.specs.declared.stretch_cursor.StretchCursor.{StretchCursor}
use Rattle.hprof_objects.specs.declared.stretch_fault.StretchFault.{StretchFault}
use Rattle.hprof_objects.specs.Cuts.{IsCutOf}
use Rattle.hprof_objects.specs.ObjectCursors.{part_stop, scratch_stop}
use Rattle.hprof_objects.specs.PartsRead.{PartRead}
use Rattle.hprof_objects.specs.ReadAgain.{IsSameAt}
use Rattle.hprof_objects.specs.StretchCursor.{CanGoOn}
use Rattle.hprof_objects.specs.StretchFault.{ByFault}
use Rattle.hprof_objects.specs.StretchKnown.{StretchComes}

-- the identifiers of its first object and of its last one
abbrev pub first_in : AnyCut → ℕ
first_in (InPart cut) = cut.first
first_in (InRun cut) = cut.first

abbrev pub last_in : AnyCut → ℕ
last_in (InPart cut) = cut.last
last_in (InRun cut) = cut.last

-- the number of its part, and 0 of a cut of a run
abbrev pub part_in : AnyCut → ℕ
part_in (InPart cut) = cut.stretch.part
part_in (InRun cut) = 0

-- why a cursor over the cut failed
abbrev pub stop_in : {G : Type 0} → AnyCut → OneOf RunFault StretchFault → ObjectFault G
stop_in cut (First fault) = scratch_stop fault
stop_in cut (Second fault) = part_stop (part_in cut) fault

-- it is one of these
abbrev pub Among : List AnyCut → AnyCut → Type 0
Among [] cut = ⊥
Among (first ∷ cuts) cut = (cut ≡ first) ⊎ Among cuts cut

-- each of the cuts lies above the one before, the first one above an identifier
abbrev pub AreAbove : ℕ → List AnyCut → Type 0
AreAbove last [] = ⊤
AreAbove last (cut ∷ cuts) = (last < first_in cut) × (first_in cut ≤ last_in cut) × AreAbove (last_in cut) cuts

-- each of the cuts lies above the one before
abbrev pub AreApart : List AnyCut → Type 0
AreApart [] = ⊤
AreApart (cut ∷ cuts) = AreAbove (last_in cut) cuts

-- a cursor over a cut
abbrev pub CutCursor : Type 0 → Type 0 → Type 0
CutCursor S R = OneOf (RunCursor S) (StretchCursor R)

-- it is over that cut: in this scratch, or in a part
abbrev pub IsOver : {S R : Type 0} → S → AnyCut → CutCursor S R → Type 0
IsOver scratch (InPart cut) (First it) = ⊥
IsOver scratch (InPart cut) (Second it) = ⊤
IsOver scratch (InRun cut) (First it) = scratch_of_run it ≡ scratch
IsOver scratch (InRun cut) (Second it) = ⊥

-- it can be asked for the next object
abbrev pub CutCanGoOn : {S R : Type 0} → (R → Health) → CutCursor S R → Type 0
CutCanGoOn health it = holds_either (λ run. ⊤) (CanGoOn health) it

-- it comes to these rows
abbrev pub CutComes : {S R : Type 0} → (S → Option (List ℕ)) → (R → Option (List ℕ)) → (R → Health) → (R → ℕ) → CutCursor S R
    → List ByteRow → Type 0
CutComes written left health pulls it rows = comes_either (ComesTo written) (StretchComes left health pulls) it rows

module _ {S : Type 0} (written : S → Option (List ℕ)) (scratch : S) (limits : Limits) (told : List (Option (List ℕ))) where
  -- where the scratch and the part tell their bytes, and the part is the same as when it was read, these are the rows of the cut
  --   told: the bytes of each part now, where they are told
  abbrev pub Comes : AnyCut → List ByteRow → Type 0
  Comes (InPart cut) rows = (reads : List PartRead) × IsCutOf limits reads cut rows × IsSameAt limits told reads cut.stretch.part
  Comes (InRun cut) rows = (all : List ℕ) × (written scratch ≡ Some all) × IsRunCut all cut rows

  -- it is a stop of reading the cut: a damage or a change: no rows are those of the cut; a read that failed: reads of the scratch may fail
  abbrev pub TellsInPart : {G : Type 0} → AnyCut → ℕ → ObjectFault G → Type 0
  TellsInPart cut number OutOfMemory = ⊤
  TellsInPart cut number (TwoContents key) = ⊥
  TellsInPart cut number (Scratch fault) = ⊥
  TellsInPart cut number (Part part fault) = (part ≡ number) × ByFault fault ⊤ ((rows : List ByteRow) → Comes cut rows → ⊥)
  TellsInPart cut number (Sink fault) = ⊥

  abbrev pub TellsInRun : {G : Type 0} → (S → Type 0) → AnyCut → ObjectFault G → Type 0
  TellsInRun unreadable cut OutOfMemory = ⊤
  TellsInRun unreadable cut (TwoContents key) = ⊥
  TellsInRun unreadable cut (Scratch fault) =
      IfReadFailed fault (unreadable scratch) × IfDamaged fault ((rows : List ByteRow) → Comes cut rows → ⊥)
  TellsInRun unreadable cut (Part part fault) = ⊥
  TellsInRun unreadable cut (Sink fault) = ⊥

  abbrev pub TellsCut : {G : Type 0} → (S → Type 0) → AnyCut → ObjectFault G → Type 0
  TellsCut unreadable (InPart cut) stop = TellsInPart (InPart cut) cut.stretch.part stop
  TellsCut unreadable (InRun cut) stop = TellsInRun unreadable (InRun cut) stop
