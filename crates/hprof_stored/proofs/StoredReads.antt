-- What reading all parts into a heap and a log says, as it is said of every call that reads parts.
use Rattle.std.proofs.Common.{◌≡◌, ◌==◌, ℕ, true, false, List, [], ◌∷◌, length, Option, Some, None, refl, subst, arith}
use Rattle.hprof_devices.specs.declared.health.Health.{Health}
use Rattle.hprof_stream.specs.declared.limits.Limits.{Limits}
use Rattle.hprof_rows.specs.declared.key.Key.TheVariants as keys
use Rattle.hprof_runs.specs.declared.scratch_fault.ScratchFault.TheVariants as scratches
use Rattle.hprof_engine.specs.declared.loss.Loss.{Loss}
use Rattle.hprof_engine.specs.declared.loss.Loss.TheVariants as losses
use Rattle.hprof_engine.specs.declared.tool_fault.ToolFault.{ToolFault}
use Rattle.hprof_engine.specs.declared.tool_fault.ToolFault.TheVariants as tool
use Rattle.hprof_engine.specs.Joining.{AreReadOut, Disagree, Tell}
use Rattle.hprof_engine.specs.Makes.{Reads}
use Rattle.hprof_stored.specs.declared.stored_fault.StoredFault.{StoredFault}
use Rattle.hprof_stored.specs.declared.stored_fault.StoredFault.TheVariants as stops
use Rattle.hprof_stored.specs.Reading.{AreSoMany, ReadsStored}
use Rattle.hprof_stored.specs.Storing.{HaveObject}
use Rattle.hprof_stored.specs.StoredMaking.{fault_of_reading}

-- there are some readers
pub some_readers : {R : Type 0} (readers : List R) → false ≡ (length readers == 0) → readers ≡ [] → ⊥
some_readers [] says = λ e. absurd (let no : false ≡ true = says in cc)
some_readers (reader ∷ readers) says = λ e. cc

module _ {R : Type 0} (left : R → Option (List ℕ)) (health : R → Health) (pulls : R → ℕ) (limits : Limits) (old new : List R)
    (some : old ≡ [] → ⊥) where
  abbrev pub ReadsSo : Option ToolFault → Type 0
  ReadsSo ended = Reads left health pulls HaveObject limits old new ended

  abbrev Out : ℕ → Type 0
  Out count = AreReadOut left health pulls limits old new count

  none_out : Out 0
  none_out k below = absurd (omega (arith, below))

  -- memory ran out before any part was read, or after all were, or the scratch failed: of this nothing more is said
  pub wants_memory : ReadsSo (Some tool.OutOfMemory)
  wants_memory = record {
    no_parts = (λ e. absurd cc, λ none. absurd (some none));
    id_sizes = λ e. absurd cc;
    conflict = λ key e. absurd cc;
    part = λ index fault e. absurd cc;
    accepted = λ all. absurd all;
    read_out = none_out;
  }

  pub lost_scratch : ReadsSo (Some (tool.Lost losses.Scratch))
  lost_scratch = record {
    no_parts = (λ e. absurd cc, λ none. absurd (some none));
    id_sizes = λ e. absurd cc;
    conflict = λ key e. absurd cc;
    part = λ index fault e. absurd cc;
    accepted = λ all. absurd all;
    read_out = none_out;
  }

  -- reading was refused
  pub refused_reads : (fault : StoredFault) → ReadsStored left health pulls limits old new (Some fault) → (count : ℕ)
      → AreSoMany (Some fault) (length old) count → Out count → ReadsSo (Some (fault_of_reading fault))
  refused_reads (stops.Part index fault) stored count so_many out = record {
    no_parts = (λ e. absurd cc, λ none. absurd (some none));
    id_sizes = λ e. absurd cc;
    conflict = λ key e. absurd cc;
    part = λ other why e.
        let same : Some (stops.Part index fault) ≡ Some (stops.Part other why) = cc in stored.part other why same;
    accepted = λ all. absurd all;
    read_out = subst Out so_many out;
  }
  refused_reads stops.NoParts stored count so_many out = absurd (some (stored.no_parts refl))
  refused_reads stops.IdSizes stored count so_many out = record {
    no_parts = (λ e. absurd cc, λ none. absurd (some none));
    id_sizes = λ e. stored.id_sizes refl;
    conflict = λ key e. absurd cc;
    part = λ index fault e. absurd cc;
    accepted = λ all. stored.accepted tt;
    read_out = subst Out so_many out;
  }
  refused_reads (stops.Conflict key) stored count so_many out = record {
    no_parts = (λ e. absurd cc, λ none. absurd (some none));
    id_sizes = λ e. absurd cc;
    conflict = λ other e. let same : Some (stops.Conflict key) ≡ Some (stops.Conflict other) = cc in stored.conflict other same;
    part = λ index fault e. absurd cc;
    accepted = λ all. stored.accepted tt;
    read_out = subst Out so_many out;
  }
  refused_reads (stops.Scratch scratches.OutOfMemory) stored count so_many out = wants_memory
  refused_reads (stops.Scratch scratches.Full) stored count so_many out = lost_scratch
  refused_reads (stops.Scratch (scratches.Write fault)) stored count so_many out = lost_scratch

  -- ---- all parts were read

  module _ (stored : ReadsStored left health pulls limits old new None) (out : Out (length old)) where
    pub all_read_so : ReadsSo None
    all_read_so = record {
      no_parts = (λ e. absurd cc, λ none. absurd (some none));
      id_sizes = λ e. absurd cc;
      conflict = λ key e. absurd cc;
      part = λ index fault e. absurd cc;
      accepted = λ all. stored.accepted tt;
      read_out = out;
    }

    -- two objects have one identifier and different contents
    pub objects_conflict : (id : ℕ) → ((parts : List (List ℕ)) → Tell left old parts → Disagree parts (keys.Object id))
        → ReadsSo (Some (tool.Conflict (keys.Object id)))
    objects_conflict id disagree = record {
      no_parts = (λ e. absurd cc, λ none. absurd (some none));
      id_sizes = λ e. absurd cc;
      conflict = λ key e parts told. let same : keys.Object id ≡ key = cc in subst (Disagree parts) same (disagree parts told);
      part = λ index fault e. absurd cc;
      accepted = λ all. stored.accepted tt;
      read_out = out;
    }

    -- the objects are lost
    pub lost_reads : (loss : Loss) → ReadsSo (Some (tool.Lost loss))
    lost_reads losses.Scratch = lost_scratch
    lost_reads (losses.Changed index) = record {
      no_parts = (λ e. absurd cc, λ none. absurd (some none));
      id_sizes = λ e. absurd cc;
      conflict = λ key e. absurd cc;
      part = λ other fault e. absurd cc;
      accepted = λ all. stored.accepted tt;
      read_out = out;
    }
    lost_reads (losses.Read index) = record {
      no_parts = (λ e. absurd cc, λ none. absurd (some none));
      id_sizes = λ e. absurd cc;
      conflict = λ key e. absurd cc;
      part = λ other fault e. absurd cc;
      accepted = λ all. stored.accepted tt;
      read_out = out;
    }
    lost_reads losses.Objects = record {
      no_parts = (λ e. absurd cc, λ none. absurd (some none));
      id_sizes = λ e. absurd cc;
      conflict = λ key e. absurd cc;
      part = λ other fault e. absurd cc;
      accepted = λ all. stored.accepted tt;
      read_out = out;
    }
