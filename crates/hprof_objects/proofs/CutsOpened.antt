-- A cut that is opened.
use Rattle.std.proofs.Common.{◌≡◌, ℕ, List, Option, sym, subst, refl}
use Rattle.hprof_devices.specs.declared.health.Health.{Health}
use Rattle.hprof_stream.specs.declared.limits.Limits.{Limits}
use Rattle.hprof_merge.specs.Rows.{ByteRow}
use Rattle.hprof_objects.specs.declared.any_cut.AnyCut.{AnyCut}
use Rattle.hprof_objects.specs.declared.any_cut.AnyCut.TheVariants.{InPart}
use Rattle.hprof_objects.specs.declared.cut.Cut.{Cut}
use Rattle.hprof_objects.specs.declared.object_fault.ObjectFault.{ObjectFault}
use Rattle.hprof_objects.specs.declared.stretch_cursor.StretchCursor.{StretchCursor}
use Rattle.hprof_objects.specs.declared.stretch_fault.StretchFault.{StretchFault}
use Rattle.hprof_objects.specs.declared.stretch_fault.StretchFault.TheVariants as faults
use Rattle.hprof_objects.specs.AnyCuts.{Comes, TellsCut, TellsInPart}
use Rattle.hprof_objects.specs.ObjectCursors.{part_stop}
use Rattle.hprof_objects.specs.StretchCursor.{OpensStretch, RefusesStretch}
use Rattle.hprof_objects.specs.StretchKnown.{StretchComes}

module _ {S : Type 0} (written : S → Option (List ℕ)) (scratch : S) (limits : Limits) (told : List (Option (List ℕ))) (any : AnyCut)
    (cut : Cut) (is : any ≡ InPart cut) where
  pub part_comes : {R : Type 0} (left : R → Option (List ℕ)) (health : R → Health) (pulls : R → ℕ) (it : StretchCursor R)
      → OpensStretch left health pulls limits told cut.stretch it → (rows : List ByteRow) → Comes written scratch limits told any rows
      → StretchComes left health pulls it rows
  part_comes left health pulls it opens rows comes =
      let its = subst (λ (c : AnyCut). Comes written scratch limits told c rows) is comes in
      (limits.max_reads, opens its.0 rows its.1.is its.2)

  pub part_refuses : (G : Type 0) (unreadable : S → Type 0) (fault : StretchFault) (stop : ObjectFault G)
      → stop ≡ part_stop cut.stretch.part fault → RefusesStretch limits told cut.stretch fault
      → TellsCut written scratch limits told unreadable any stop
  part_refuses G unreadable fault stop why refuses =
      subst (λ (c : AnyCut). TellsCut written scratch limits told unreadable c stop) (sym is)
      (subst (λ (s : ObjectFault G). TellsInPart written scratch limits told (InPart cut) cut.stretch.part s) (sym why) (tells fault
      refuses))
    where
      tells : (fault : StretchFault) → RefusesStretch limits told cut.stretch fault
          → TellsInPart written scratch limits told {G = G} (InPart cut) cut.stretch.part (part_stop cut.stretch.part fault)
      tells faults.OutOfMemory refuses = tt
      tells faults.Read refuses = (refl, tt)
      tells faults.Changed refuses = (refl, λ rows comes. refuses comes.0 rows comes.1.is comes.2)
