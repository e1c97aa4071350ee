-- The answers of a call that makes something of parts, whose objects are read again.
use Rattle.std.proofs.Common.{◌≡◌, ◌⊎◌, inl, inr, ℕ, List, [], length, Option, Some, None, refl, sym, subst}
use Rattle.std.specs.Prelude.{All}
use Rattle.hprof_devices.specs.declared.health.Health.{Health}
use Rattle.hprof_devices.specs.declared.health.Health.TheVariants as healths
use Rattle.hprof_devices.specs.declared.health.WriteFault.{WriteFault}
use Rattle.hprof_devices.specs.declared.health.WriteFault.TheVariants as faults
use Rattle.hprof_devices.specs.Device.{health_after}
use Rattle.hprof_values.specs.declared.ids.IdSize.{IdSize}
use Rattle.hprof_items.specs.FactValue.{FactValue}
use Rattle.hprof_stream.specs.declared.limits.Limits.{Limits}
use Rattle.hprof_stream.specs.declared.summary.PartSummary.{PartSummary}
use Rattle.hprof_rows.specs.declared.key.Key.TheVariants as keys
use Rattle.hprof_rows.specs.HeapValue.{HeapValue}
use Rattle.hprof_heap.specs.State.{IsState}
use Rattle.hprof_engine.specs.declared.loss.Loss.{Loss}
use Rattle.hprof_engine.specs.declared.loss.Loss.TheVariants as losses
use Rattle.hprof_engine.specs.declared.heap_fault.HeapFault.{HeapFault}
use Rattle.hprof_engine.specs.declared.tool_fault.ToolFault.{ToolFault}
use Rattle.hprof_engine.specs.declared.tool_fault.ToolFault.TheVariants as tool
use Rattle.hprof_engine.specs.Joining.{Agree, AreReadOut, IsHindered, IsOfReading, IsOkOrConflict, Tell}
use Rattle.hprof_engine.specs.Makes.{IsChange, IsMadeOf, Makes, Reads, WritesAll, WritesFront}
use Rattle.hprof_runs.specs.declared.run_fault.RunFault.TheVariants as runs
use Rattle.hprof_runs.specs.declared.scratch_fault.ScratchFault.TheVariants as scratches
use Rattle.hprof_objects.specs.declared.stretch_fault.StretchFault.TheVariants as stretches
use Rattle.hprof_stored.specs.declared.in_parts_fault.InPartsFault.{InPartsFault}
use Rattle.hprof_stored.specs.declared.in_parts_fault.InPartsFault.TheVariants as passes
use Rattle.hprof_stored.specs.declared.stored_fault.StoredFault.{StoredFault}
use Rattle.hprof_stored.specs.declared.stored_fault.StoredFault.TheVariants as stops
use Rattle.hprof_stored.specs.Reading.{AreSoMany, IsHinderedStored, IsOkOrConflictStored, ReadsStored}
use Rattle.hprof_stored.specs.Storing.{HaveObject}
use Rattle.hprof_stored.specs.StoredMaking.{IsOfLoss, fault_of_pass, fault_of_reading, stored_making}
use Rattle.hprof_stored.proofs.StoredReads.{lost_reads, lost_scratch, objects_conflict, refused_reads, wants_memory}

-- after a fault of the writer it is not well
ill : (health : Health) (fault : WriteFault) → health ≡ health_after fault → health ≡ healths.Well → ⊥
ill health faults.Failed is was = cc
ill health faults.Stuck is was = cc

-- ---- what hinders reading

pub reading_hinders : (fault : StoredFault) → IsHinderedStored (Some fault) → IsHindered (Some (fault_of_reading fault))
reading_hinders (stops.Part index fault) hinders = hinders
reading_hinders stops.NoParts hinders = absurd hinders
reading_hinders stops.IdSizes hinders = absurd hinders
reading_hinders (stops.Conflict key) hinders = absurd hinders
reading_hinders (stops.Scratch scratches.OutOfMemory) hinders = tt
reading_hinders (stops.Scratch scratches.Full) hinders = tt
reading_hinders (stops.Scratch (scratches.Write fault)) hinders = tt

pub reading_other : (fault : StoredFault) → IsOkOrConflictStored (Some fault) → IsOkOrConflict (Some (fault_of_reading fault))
reading_other (stops.Part index fault) other = absurd other
reading_other stops.NoParts other = absurd other
reading_other stops.IdSizes other = absurd other
reading_other (stops.Conflict key) other = tt
reading_other (stops.Scratch scratches.OutOfMemory) other = absurd other
reading_other (stops.Scratch scratches.Full) other = absurd other
reading_other (stops.Scratch (scratches.Write fault)) other = absurd other

module _ {R W : Type 0} (left : R → Option (List ℕ)) (health : R → Health) (pulls : R → ℕ) (limits : Limits) (old new : List R)
    (written : W → Option (List ℕ)) (well : W → Health) (IsText : List PartSummary → HeapValue → List ℕ → Type 0)
    (Refuses : HeapFault → HeapValue → Type 0) (before after : W) where
  abbrev pub MakesStored : Option ToolFault → Type 0
  MakesStored ended = Makes left health pulls written well limits (stored_making IsText Refuses) old new before after ended

  abbrev pub ReadsStoredTo : Option ToolFault → Type 0
  ReadsStoredTo ended = Reads left health pulls HaveObject limits old new ended

  -- that holds of all parts, if they are told
  abbrev pub IfTold : (List (List ℕ) → Type 0) → Type 0
  IfTold Holds = (parts : List (List ℕ)) → Tell left old parts → Holds parts

  abbrev pub FrontIfTold : Type 0
  FrontIfTold = IfTold (λ parts. WritesFront (IsMadeOf IsText) parts (written before) (written after))

  -- where parts state something together and readers stay well, only these answers are left, unless something hindered it
  abbrev pub HasNoOther : Option ToolFault → Type 0
  HasNoOther ended = (parts : List (List ℕ)) (ids : IdSize) (millis : ℕ) (facts : List FactValue) → Tell left old parts
      → IsState parts ids millis facts → All (λ reader. health reader ≡ healths.Well) new → (IsHindered ended → ⊥) → IsOkOrConflict ended

  -- the parts are refused
  pub refused : (fault : ToolFault) → IsOfReading (Some fault) → ReadsStoredTo (Some fault) → HasNoOther (Some fault) → after ≡ before
      → MakesStored (Some fault)
  refused fault kind reads no_other same = record {
    reads = reads;
    ok = λ e. absurd cc;
    unwritten = λ _. same;
    refused = λ why e. absurd (subst IsOfReading e kind);
    write = λ why e. absurd (subst IsOfReading e kind);
    lost = λ loss e. absurd (subst IsOfReading e kind);
    memory = λ e. absurd (subst IsOfReading e kind);
    no_other = λ parts ids millis facts told state are_well _ unhindered. no_other parts ids millis facts told state are_well unhindered;
  }

  -- all was written
  pub done : ReadsStoredTo None → well after ≡ healths.Well
      → IfTold (λ parts. WritesAll (IsMadeOf IsText) parts (written before) (written after)) → MakesStored None
  done reads is_well wrote = record {
    reads = reads;
    ok = λ e. (is_well, wrote);
    unwritten = λ none. absurd none;
    refused = λ refusal e. absurd cc;
    write = λ fault e. absurd cc;
    lost = λ loss e. absurd cc;
    memory = λ e. absurd cc;
    no_other = λ parts ids millis facts told state are_well well_then unhindered. tt;
  }

  -- the target failed
  pub failed : (fault : WriteFault) → ReadsStoredTo (Some (tool.Write fault)) → well after ≡ health_after fault → FrontIfTold
      → MakesStored (Some (tool.Write fault))
  failed fault reads is_ill front = record {
    reads = reads;
    ok = λ e. absurd cc;
    unwritten = λ none. absurd none;
    refused = λ refusal e. absurd cc;
    write = λ why e.
        let one : fault ≡ why = cc in (subst (λ (f : WriteFault). well after ≡ health_after f) one is_ill, front);
    lost = λ loss e. absurd cc;
    memory = λ e. absurd cc;
    no_other = λ parts ids millis facts told state are_well is_well unhindered. absurd (ill (well after) fault is_ill is_well);
  }

  -- the heap is refused
  pub heap_refused : (refusal : HeapFault) → ReadsStoredTo (Some (tool.Refused refusal)) → after ≡ before
      → IfTold (λ parts. (heap : HeapValue) × Refuses refusal heap × Agree parts heap.ids heap.millis heap.facts)
      → MakesStored (Some (tool.Refused refusal))
  heap_refused refusal reads same refuses = record {
    reads = reads;
    ok = λ e. absurd cc;
    unwritten = λ _. same;
    refused = λ other e.
        let one : refusal ≡ other = cc in (
          inl tt,
          λ parts told. subst (λ (r : HeapFault). (heap : HeapValue) × Refuses r heap
              × Agree parts heap.ids heap.millis heap.facts) one
              (refuses parts told),
        );
    write = λ fault e. absurd cc;
    lost = λ loss e. absurd cc;
    memory = λ e. absurd cc;
    no_other = λ parts ids millis facts told state are_well is_well unhindered. absurd (unhindered tt);
  }

  -- the objects are lost
  made_lost : (loss : Loss) → ReadsStoredTo (Some (tool.Lost loss)) → (after ≡ before) ⊎ FrontIfTold → IfTold (λ parts. IsChange loss → ⊥)
      → MakesStored (Some (tool.Lost loss))
  made_lost loss reads wrote unchanged = record {
    reads = reads;
    ok = λ e. absurd cc;
    unwritten = λ none. absurd none;
    refused = λ refusal e. absurd cc;
    write = λ fault e. absurd cc;
    lost = λ other e.
        let one : loss ≡ other = cc in (
          tt,
          wrote,
          λ parts told. subst (λ (l : Loss). IsChange l → ⊥) one (unchanged parts told),
        );
    memory = λ e. absurd cc;
    no_other = λ parts ids millis facts told state are_well is_well unhindered. absurd (unhindered tt);
  }

  -- memory is wanted: before any part was read, or behind all of them, and nothing or a front was written
  abbrev pub WantsFirst : Type 0
  WantsFirst = (new ≡ old) × (after ≡ before)

  abbrev pub WantsBehind : Type 0
  WantsBehind = AreReadOut left health pulls limits old new (length old) × (well after ≡ healths.Well) × ((after ≡ before) ⊎ FrontIfTold)

  pub wants : ReadsStoredTo (Some tool.OutOfMemory) → WantsFirst ⊎ WantsBehind → MakesStored (Some tool.OutOfMemory)
  wants reads why = record {
    reads = reads;
    ok = λ e. absurd cc;
    unwritten = λ none. absurd none;
    refused = λ refusal e. absurd cc;
    write = λ fault e. absurd cc;
    lost = λ loss e. absurd cc;
    memory = λ e. elim why [
      | inl first ↦ inl (tt, first.0, first.1)
      | inr behind ↦ inr (
        tt,
        behind.0,
        behind.1,
        elim behind.2 [
          | inl same ↦ inr (inl tt, same)
          | inr front ↦ inl front
        ],
      )
    ];
    no_other = λ parts ids millis facts told state are_well is_well unhindered. absurd (unhindered tt);
  }

  module _ (some : old ≡ [] → ⊥) where
    -- the reading was refused, and nothing was written
    abbrev pub HasNoOtherStored : Option StoredFault → Type 0
    HasNoOtherStored ended = (parts : List (List ℕ)) (ids : IdSize) (millis : ℕ) (facts : List FactValue) → Tell left old parts
        → IsState parts ids millis facts → All (λ reader. health reader ≡ healths.Well) new → (IsHinderedStored ended → ⊥)
        → IsOkOrConflictStored ended

    module _ (same : after ≡ before) where
      refused_for : (fault : StoredFault) → IsOfReading (Some (fault_of_reading fault))
          → ReadsStored left health pulls limits old new (Some fault) → (count : ℕ) → AreSoMany (Some fault) (length old) count
          → AreReadOut left health pulls limits old new count → HasNoOtherStored (Some fault) → MakesStored (Some (fault_of_reading fault))
      refused_for fault kind stored count so_many out no_other =
          refused (fault_of_reading fault) kind (refused_reads left health pulls limits old new some fault stored count so_many out)
          (λ parts ids millis facts told state are_well unhindered. reading_other fault (no_other parts ids millis facts told state are_well
          (λ hinders. unhindered (reading_hinders fault hinders)))) same

      pub reading_makes : (fault : StoredFault) → ReadsStored left health pulls limits old new (Some fault) → (count : ℕ)
          → AreSoMany (Some fault) (length old) count → AreReadOut left health pulls limits old new count → HasNoOtherStored (Some fault)
          → MakesStored (Some (fault_of_reading fault))
      reading_makes (stops.Part index fault) stored count so_many out no_other =
          refused_for (stops.Part index fault) tt stored count so_many out no_other
      reading_makes stops.NoParts stored count so_many out no_other = absurd (some (stored.no_parts refl))
      reading_makes stops.IdSizes stored count so_many out no_other = refused_for stops.IdSizes tt stored count so_many out no_other
      reading_makes (stops.Conflict key) stored count so_many out no_other =
          refused_for (stops.Conflict key) tt stored count so_many out no_other
      reading_makes (stops.Scratch scratches.OutOfMemory) stored count so_many out no_other =
          wants (wants_memory left health pulls limits old new some) (inl (stored.scratch scratches.OutOfMemory refl, same))
      reading_makes (stops.Scratch scratches.Full) stored count so_many out no_other =
          made_lost losses.Scratch (lost_scratch left health pulls limits old new some) (inl same) (λ parts told change. change)
      reading_makes (stops.Scratch (scratches.Write fault)) stored count so_many out no_other =
          made_lost losses.Scratch (lost_scratch left health pulls limits old new some) (inl same) (λ parts told change. change)

    -- all parts were read
    module _ (stored : ReadsStored left health pulls limits old new None)
        (out : AreReadOut left health pulls limits old new (length old)) where
      abbrev pub Wrote : Type 0
      Wrote = (after ≡ before) ⊎ FrontIfTold

      pub lost : (loss : Loss) → Wrote → IfTold (λ parts. IsChange loss → ⊥) → MakesStored (Some (tool.Lost loss))
      lost loss wrote unchanged = made_lost loss (lost_reads left health pulls limits old new some stored out loss) wrote unchanged

      pub wants_behind : well after ≡ healths.Well → Wrote → MakesStored (Some tool.OutOfMemory)
      wants_behind is_well wrote = wants (wants_memory left health pulls limits old new some) (inr (out, is_well, wrote))

      -- the objects cannot be gone through, and nothing was written
      module _ (was_well : well before ≡ healths.Well) (same : after ≡ before) where
        unwritten_wants : MakesStored (Some tool.OutOfMemory)
        unwritten_wants = wants_behind (subst (λ (w : W). well w ≡ healths.Well) (sym same) was_well) (inl same)

        pub pass_makes : (fault : InPartsFault) → IfTold (λ parts. IsOfLoss parts fault) → MakesStored (Some (fault_of_pass fault))
        pass_makes passes.OutOfMemory tells = unwritten_wants
        pass_makes passes.TooMany tells = unwritten_wants
        pass_makes (passes.TwoContents id) tells =
            refused (tool.Conflict (keys.Object id)) tt (objects_conflict left health pulls limits old new some stored out id tells)
            (λ parts ids millis facts told state are_well unhindered. tt) same
        pass_makes (passes.Scratch runs.OutOfMemory) tells = unwritten_wants
        pass_makes (passes.Scratch runs.Read) tells = lost losses.Scratch (inl same) (λ parts told change. change)
        pass_makes (passes.Scratch runs.Damaged) tells = lost losses.Scratch (inl same) (λ parts told change. change)
        pass_makes (passes.Part part stretches.OutOfMemory) tells = unwritten_wants
        pass_makes (passes.Part part stretches.Read) tells = lost (losses.Read part) (inl same) (λ parts told change. change)
        pass_makes (passes.Part part stretches.Changed) tells = lost (losses.Changed part) (inl same)
            (λ parts told change. tells parts told)
        pass_makes passes.NoObject tells = lost losses.Objects (inl same) (λ parts told change. tells parts told)
