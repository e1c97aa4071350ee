-- What a call answers that counts the objects of parts: it makes no text.
use Rattle.std.proofs.Common.{◌≡◌, inl, inr, ℕ, List, [], length, Option, Some, None, refl, subst}
use Rattle.std.specs.Prelude.{All, ⊤}
use Rattle.hprof_devices.specs.declared.health.Health.{Health}
use Rattle.hprof_devices.specs.declared.health.Health.TheVariants as healths
use Rattle.hprof_values.specs.declared.ids.IdSize.{IdSize}
use Rattle.hprof_items.specs.FactValue.{FactValue}
use Rattle.hprof_stream.specs.declared.limits.Limits.{Limits}
use Rattle.hprof_stream.specs.declared.summary.PartSummary.{PartSummary}
use Rattle.hprof_rows.specs.HeapValue.{HeapValue}
use Rattle.hprof_heap.specs.State.{IsState}
use Rattle.hprof_objects.specs.declared.stretch_fault.StretchFault.TheVariants as stretches
use Rattle.hprof_runs.specs.declared.run_fault.RunFault.TheVariants as runs
use Rattle.hprof_runs.specs.declared.scratch_fault.ScratchFault.TheVariants as scratches
use Rattle.hprof_engine.specs.declared.product.ProductFault.TheVariants as writes
use Rattle.hprof_engine.specs.declared.heap_fault.HeapFault.{HeapFault}
use Rattle.hprof_engine.specs.declared.tool_fault.ToolFault.{ToolFault}
use Rattle.hprof_engine.specs.declared.tool_fault.ToolFault.TheVariants as tool
use Rattle.hprof_engine.specs.Joining.{AreReadOut, IsHindered, IsOfReading, IsOkOrConflict, Tell, none_known}
use Rattle.hprof_engine.specs.Makes.{Makes, Reads}
use Rattle.hprof_engine.proofs.Making.{stopped}
use Rattle.hprof_stored.specs.declared.in_parts_fault.InPartsFault.{InPartsFault}
use Rattle.hprof_stored.specs.declared.in_parts_fault.InPartsFault.TheVariants as passes
use Rattle.hprof_stored.specs.declared.stored_fault.StoredFault.{StoredFault}
use Rattle.hprof_stored.specs.declared.stored_fault.StoredFault.TheVariants as stops
use Rattle.hprof_stored.specs.Reading.{AreSoMany, IsHinderedStored, IsOkOrConflictStored, ReadsStored}
use Rattle.hprof_stored.specs.Storing.{HaveObject}
use Rattle.hprof_stored.specs.StoredMaking.{IsOfLoss, fault_of_pass, fault_of_reading, stored_making}
use Rattle.hprof_stored.proofs.StoredMakes.{pass_makes, reading_makes}
use Rattle.hprof_stored.proofs.StoredReads.{all_read_so, wants_memory}
use Rattle.hprof_diff.specs.Comparing.{Counts, IsOfCounting}

-- ---- with which faults counting ends

of_reading : (ended : Option ToolFault) → IsOfReading ended → IsOfCounting ended
of_reading None kind = tt
of_reading (Some (tool.Part index fault)) kind = tt
of_reading (Some tool.NoParts) kind = tt
of_reading (Some tool.IdSizes) kind = tt
of_reading (Some (tool.Conflict key)) kind = tt
of_reading (Some (tool.Refused refusal)) kind = absurd kind
of_reading (Some (tool.Lost loss)) kind = tt
of_reading (Some (tool.Write fault)) kind = absurd kind
of_reading (Some tool.OutOfMemory) kind = tt

of_stored_reading : (fault : StoredFault) → IsOfCounting (Some (fault_of_reading fault))
of_stored_reading (stops.Part index fault) = tt
of_stored_reading stops.NoParts = tt
of_stored_reading stops.IdSizes = tt
of_stored_reading (stops.Conflict key) = tt
of_stored_reading (stops.Scratch scratches.OutOfMemory) = tt
of_stored_reading (stops.Scratch scratches.Full) = tt
of_stored_reading (stops.Scratch (scratches.Write fault)) = tt

of_pass : (fault : InPartsFault) → IsOfCounting (Some (fault_of_pass fault))
of_pass passes.OutOfMemory = tt
of_pass (passes.TwoContents id) = tt
of_pass (passes.Scratch runs.OutOfMemory) = tt
of_pass (passes.Scratch runs.Read) = tt
of_pass (passes.Scratch runs.Damaged) = tt
of_pass (passes.Part part stretches.OutOfMemory) = tt
of_pass (passes.Part part stretches.Read) = tt
of_pass (passes.Part part stretches.Changed) = tt
of_pass passes.NoObject = tt
of_pass passes.TooMany = tt

-- ---- the text that is made

abbrev NoText : List PartSummary → HeapValue → List ℕ → Type 0
NoText summaries heap text = ⊤

abbrev refuses_none : HeapFault → HeapValue → Type 0
refuses_none refusal heap = ⊥

abbrev nothing_written : Unit {0} → Option (List ℕ)
nothing_written nowhere = None

abbrev always_well : Unit {0} → Health
always_well nowhere = healths.Well

module _ {R : Type 0} (left : R → Option (List ℕ)) (health : R → Health) (pulls : R → ℕ) (limits : Limits) (old new : List R) where
  -- where parts state something together and readers stay well, only these answers are left, unless something hindered it
  abbrev NoOther : (IsHinderedSo IsOther : Type 0) → Type 0
  NoOther IsHinderedSo IsOther = (parts : List (List ℕ)) (ids : IdSize) (millis : ℕ) (facts : List FactValue) → Tell left old parts
      → IsState parts ids millis facts → All (λ reader. health reader ≡ healths.Well) new → (IsHinderedSo → ⊥) → IsOther

  -- ---- objects in memory

  abbrev CountsParts : Option ToolFault → Type 0
  CountsParts ended = Counts left health pulls none_known ⊥ limits old new ended

  -- all parts were read, or they were refused
  pub read_counts : (ended : Option ToolFault) → Reads left health pulls none_known limits old new ended → IsOfReading ended
      → NoOther (IsHindered ended) (IsOkOrConflict ended) → CountsParts ended
  read_counts ended reads kind no_other = record {
    reads = reads;
    kind = of_reading ended kind;
    lost = λ loss e. absurd (subst IsOfReading e kind);
    memory = λ e. absurd (subst IsOfReading e kind);
    no_other = no_other;
  }

  -- memory ran out when all were read
  pub wants_counts : Reads left health pulls none_known limits old new None → CountsParts (Some tool.OutOfMemory)
  wants_counts reads = record {
    reads = stopped left health pulls limits old new none_known writes.OutOfMemory reads;
    kind = tt;
    lost = λ loss e. absurd cc;
    memory = λ e. inl reads.read_out;
    no_other = λ parts ids millis facts told state are_well unhindered. absurd (unhindered tt);
  }

  -- ---- objects that are read again

  abbrev CountsStored : Option ToolFault → Type 0
  CountsStored ended = Counts left health pulls HaveObject ⊤ limits old new ended

  made_counts : (ended : Option ToolFault) → IsOfCounting ended
      → Makes left health pulls nothing_written always_well limits (stored_making NoText refuses_none) old new tt tt ended
      → CountsStored ended
  made_counts ended kind makes = record {
    reads = makes.reads;
    kind = kind;
    lost = λ loss e. let is = makes.lost loss e in (is.0, is.2);
    memory = λ e. elim (makes.memory e) [
      | inl first ↦ inr (first.0, first.1)
      | inr behind ↦ inl behind.1
    ];
    no_other = λ parts ids millis facts told state are_well unhindered. makes.no_other parts ids millis facts told state are_well refl
        unhindered;
  }

  module _ (some : old ≡ [] → ⊥) where
    -- the parts were refused
    pub reading_counts : (fault : StoredFault) → ReadsStored left health pulls limits old new (Some fault) → (count : ℕ)
        → AreSoMany (Some fault) (length old) count → AreReadOut left health pulls limits old new count
        → NoOther (IsHinderedStored (Some fault)) (IsOkOrConflictStored (Some fault)) → CountsStored (Some (fault_of_reading fault))
    reading_counts fault stored count so_many out no_other =
        made_counts (Some (fault_of_reading fault)) (of_stored_reading fault)
        (reading_makes left health pulls limits old new nothing_written always_well NoText refuses_none tt tt some refl fault stored count
        so_many out no_other)

    -- all parts were read
    module _ (stored : ReadsStored left health pulls limits old new None)
        (out : AreReadOut left health pulls limits old new (length old)) where
      pub all_counts : CountsStored None
      all_counts = record {
        reads = all_read_so left health pulls limits old new some stored out;
        kind = tt;
        lost = λ loss e. absurd cc;
        memory = λ e. absurd cc;
        no_other = λ parts ids millis facts told state are_well unhindered. tt;
      }

      -- and then memory ran out
      pub stored_wants_counts : CountsStored (Some tool.OutOfMemory)
      stored_wants_counts = record {
        reads = wants_memory left health pulls limits old new some;
        kind = tt;
        lost = λ loss e. absurd cc;
        memory = λ e. inl out;
        no_other = λ parts ids millis facts told state are_well unhindered. absurd (unhindered tt);
      }

      -- their objects cannot be gone through
      pub pass_counts : (fault : InPartsFault) → ((parts : List (List ℕ)) → Tell left old parts → IsOfLoss parts fault)
          → CountsStored (Some (fault_of_pass fault))
      pass_counts fault tells = made_counts (Some (fault_of_pass fault)) (of_pass fault)
          (pass_makes left health pulls limits old new nothing_written always_well NoText refuses_none tt tt some stored out refl refl fault
          tells)
