-- What a fault tells as stored objects are opened.
use Rattle.std.proofs.lemmas.List.{get_or_past}
use Rattle.std.proofs.Common.{◌≡◌, ◌<◌, ◌≤◌, None, ℕ, zero, suc, List, [], ◌∷◌, length, Option, slice_index_or, sym, subst, arith}
use Rattle.std.proofs.lemmas.List.Elements.{at_from_Contains}
use Rattle.hprof_devices.specs.declared.health.Health.{Health}
use Rattle.hprof_stream.specs.declared.limits.Limits.{Limits}
use Rattle.hprof_parts.specs.Parts.{bytes_at}
use Rattle.hprof_merge.specs.Rows.{ByteRow}
use Rattle.hprof_runs.specs.declared.run_fault.RunFault.{RunFault}
use Rattle.hprof_runs.specs.declared.run_fault.RunFault.TheVariants as runs
use Rattle.hprof_runs.specs.RunFault.{IfDamaged}
use Rattle.hprof_runs.specs.Runs.{HoldsRuns}
use Rattle.hprof_objects.specs.declared.stored_objects.StoredObjects.{StoredObjects}
use Rattle.hprof_objects.specs.declared.stretch.Stretch.{Stretch}
use Rattle.hprof_objects.specs.declared.stretch_fault.StretchFault.{StretchFault}
use Rattle.hprof_objects.specs.declared.stretch_fault.StretchFault.TheVariants as stretches
use Rattle.hprof_objects.specs.MergedObjects.{TellsChange}
use Rattle.hprof_objects.specs.ObjectCursors.{part_stop, scratch_stop}
use Rattle.hprof_objects.specs.PartsRead.{PartRead}
use Rattle.hprof_objects.specs.ReadAgain.{IsSameAt}
use Rattle.hprof_objects.specs.StretchCursor.{RefusesOneOf}
use Rattle.hprof_objects.specs.Stretches.{AreStretches, IsStretch}

-- each stretch has rows
rows_of : (limits : Limits) (reads : List PartRead) (list : List Stretch) (lists : List (List ByteRow)) → AreStretches limits reads list
    lists → (k : ℕ)
    (one : Stretch) → slice_index_or list k one ≡ one → k < length list → (rows : List ByteRow) × IsStretch limits reads one rows
rows_of limits reads [] lists are k one is lt = absurd (omega (arith, lt))
rows_of limits reads (first ∷ list) [] are k one is lt = absurd are
rows_of limits reads (first ∷ list) (rows ∷ lists) are zero one is lt =
    (rows, subst (λ (s : Stretch). IsStretch limits reads s rows) is are.0)
rows_of limits reads (first ∷ list) (rows ∷ lists) are (suc k) one is lt = rows_of limits reads list lists are.1 k one is
    (omega (arith, lt))

-- a part that is not there is not the same
pub not_there : (limits : Limits) (told : List (Option (List ℕ))) (one : Stretch) → length told ≤ one.part → (reads : List PartRead)
    (rows : List ByteRow) → IsStretch limits reads one rows → IsSameAt limits told reads one.part → ⊥
not_there limits told one past reads rows is same =
    let tells = (same is.part is.is).tells in let none : bytes_at told one.part ≡ None = get_or_past told one.part None past in absurd cc

module _ {S : Type 0} (G : Type 0) (written : S → Option (List ℕ)) (health : S → Health) (limits : Limits) (told : List (Option (List ℕ)))
    (objects : StoredObjects S) where
  pub scratch_tells : (fault : RunFault) → IfDamaged fault ((lists : List (List ByteRow)) → HoldsRuns written health objects.runs lists → ⊥)
      → TellsChange written health limits told objects (scratch_stop {G = G} fault)
  scratch_tells runs.OutOfMemory damaged = tt
  scratch_tells runs.Read damaged = tt
  scratch_tells runs.Damaged damaged = λ reads holds. damaged holds.runs holds.are_runs

  pub part_tells : (list : List Stretch) (part : ℕ) (fault : StretchFault) → list ≡ objects.stretches.items
      → RefusesOneOf limits told list part fault → TellsChange written health limits told objects (part_stop {G = G} part fault)
  part_tells list part stretches.OutOfMemory same refuses = tt
  part_tells list part stretches.Read same refuses = tt
  part_tells list part stretches.Changed same refuses = λ reads holds told_same.
      let one = refuses.stretch in
      let at = at_from_Contains list one refuses.among in
      let are = subst (λ (l : List Stretch). AreStretches limits reads l holds.lists) (sym same) holds.are_stretches in
      let rows = rows_of limits reads list holds.lists are at.0 one (at.2 one) at.1 in
      refuses.refuses reads rows.0 rows.1 (subst (IsSameAt limits told reads) refuses.in_part told_same)
