-- Making something of parts.
use Rattle.std.proofs.Common.{◌≡◌, inl, inr, ℕ, List, Option, Some, None, Result, Ok, Err, refl, subst, arith}
use Rattle.std.specs.Prelude.{All}
use Rattle.hprof_devices.specs.declared.health.Health.{Health}
use Rattle.hprof_devices.specs.declared.health.Health.TheVariants as healths
use Rattle.hprof_devices.specs.declared.health.WriteFault.{WriteFault}
use Rattle.hprof_devices.specs.declared.health.WriteFault.TheVariants as faults
use Rattle.hprof_devices.specs.Device.{health_after}
use Rattle.hprof_values.specs.declared.ids.IdSize.{IdSize}
use Rattle.hprof_items.specs.FactValue.{FactValue}
use Rattle.hprof_stream.specs.declared.limits.Limits.{Limits}
use Rattle.hprof_stream.specs.declared.summary.PartSummary.{PartSummary}
use Rattle.hprof_rows.specs.HeapValue.{HeapValue}
use Rattle.hprof_heap.specs.State.{IsState}
use Rattle.hprof_engine.specs.declared.tool_fault.ToolFault.{ToolFault}
use Rattle.hprof_engine.specs.declared.heap_fault.HeapFault.{HeapFault}
use Rattle.hprof_engine.specs.declared.product.ProductFault.{ProductFault}
use Rattle.hprof_engine.specs.declared.product.ProductFault.TheVariants as stops
use Rattle.hprof_engine.specs.Summaries.{AreSummaries}
use Rattle.hprof_engine.specs.Joining.{Tell, Agree, IsOfReading, IsHindered, IsOkOrConflict, none_known}
use Rattle.hprof_engine.specs.Makes.{Reads, Making, Makes, EndsWriting, IsMadeOf, making_of, fault_of_stop}

-- ---- reading was refused

module _ {R W : Type 0} (left : R → Option (List ℕ)) (health : R → Health) (pulls : R → ℕ) (written : W → Option (List ℕ))
    (well : W → Health) (limits : Limits) (making : Making) (old new : List R) (target : W) where
  pub refused : (fault : ToolFault) → IsOfReading (Some fault) → Reads left health pulls making.TakesKnown limits old new (Some fault)
      → ((parts : List (List ℕ)) (ids : IdSize) (millis : ℕ) (facts : List FactValue) → Tell left old parts
      → IsState parts ids millis facts → All (λ reader. health reader ≡ healths.Well) new → (IsHindered (Some fault) → ⊥)
      → IsOkOrConflict (Some fault))
      → Makes left health pulls written well limits making old new target target (Some fault)
  refused fault kind reads no_other = record {
    reads = reads;
    ok = λ e. absurd cc;
    unwritten = λ _. refl;
    refused = λ why e. absurd (subst IsOfReading e kind);
    write = λ why e. absurd (subst IsOfReading e kind);
    lost = λ loss e. absurd (subst IsOfReading e kind);
    memory = λ e. absurd (subst IsOfReading e kind);
    no_other = λ parts ids millis facts told state are_well _ unhindered. no_other parts ids millis facts told state are_well unhindered;
  }

-- ---- all parts were read, and the writing ended

-- the fault with which the call ends, if any
abbrev pub fault_of_end : Result (Unit {0}) ProductFault → Option ToolFault
fault_of_end (Ok done) = None
fault_of_end (Err stop) = Some (fault_of_stop stop)

-- after a fault of the writer it is not well
ill : (health : Health) (fault : WriteFault) → health ≡ health_after fault → health ≡ healths.Well → ⊥
ill health faults.Failed is was = cc
ill health faults.Stuck is was = cc

module _ {R : Type 0} (left : R → Option (List ℕ)) (health : R → Health) (pulls : R → ℕ) (limits : Limits) (old new : List R) where
  -- where all parts were read, a stop says nothing else of them
  pub stopped : (TakesKnown : List FactValue → Type 0) (stop : ProductFault) → Reads left health pulls TakesKnown limits old new None
      → Reads left health pulls TakesKnown limits old new (Some (fault_of_stop stop))
  stopped TakesKnown (stops.Write fault) reads = record {
    no_parts = (λ e. absurd cc, λ none. let no = reads.no_parts.1 none in absurd cc);
    id_sizes = λ e. absurd cc;
    conflict = λ key e. absurd cc;
    part = λ index why e. absurd cc;
    accepted = reads.accepted;
    read_out = reads.read_out;
  }
  stopped TakesKnown (stops.Refused refusal) reads = record {
    no_parts = (λ e. absurd cc, λ none. let no = reads.no_parts.1 none in absurd cc);
    id_sizes = λ e. absurd cc;
    conflict = λ key e. absurd cc;
    part = λ index why e. absurd cc;
    accepted = reads.accepted;
    read_out = reads.read_out;
  }
  stopped TakesKnown stops.OutOfMemory reads = record {
    no_parts = (λ e. absurd cc, λ none. let no = reads.no_parts.1 none in absurd cc);
    id_sizes = λ e. absurd cc;
    conflict = λ key e. absurd cc;
    part = λ index why e. absurd cc;
    accepted = λ none. absurd none;
    read_out = λ k below. absurd (omega (arith, below));
  }

  module _ {W : Type 0} (written : W → Option (List ℕ)) (well : W → Health)
      (IsText : List PartSummary → HeapValue → List ℕ → Type 0) (Refuses : HeapFault → HeapValue → Type 0) (TakesRoom : ℕ → Type 0)
      (TakesMemory : Type 0)
      (before after : W) (heap : HeapValue) (summaries : List PartSummary)
      (agree : (parts : List (List ℕ)) → Tell left old parts → Agree parts heap.ids heap.millis heap.facts)
      (of_parts : (parts : List (List ℕ)) → Tell left old parts → AreSummaries parts summaries) where
    made : (parts : List (List ℕ)) → Tell left old parts → (text : List ℕ) → IsText summaries heap text → IsMadeOf IsText parts text
    made parts told text is = record {
      heap = heap;
      agree = agree parts told;
      summaries = summaries;
      of_parts = of_parts parts told;
      is = is;
    }

    pub ended : Reads left health pulls none_known limits old new None → (result : Result (Unit {0}) ProductFault)
        → EndsWriting written well (IsText summaries heap) (λ refusal. Refuses refusal heap) TakesMemory before after result
        → Makes left health pulls written well limits (making_of IsText Refuses TakesRoom TakesMemory) old new before after
        (fault_of_end result)
    ended reads (Ok done) ends = record {
      reads = reads;
      ok = λ e. (ends.0, λ parts told. (ends.1.0, made parts told ends.1.0 ends.1.1, ends.1.2));
      unwritten = λ none. absurd none;
      refused = λ refusal e. absurd cc;
      write = λ fault e. absurd cc;
      lost = λ loss e. absurd cc;
      memory = λ e. absurd cc;
      no_other = λ parts ids millis facts told state are_well is_well unhindered. tt;
    }
    ended reads (Err (stops.Write fault)) ends = record {
      reads = stopped none_known (stops.Write fault) reads;
      ok = λ e. absurd cc;
      unwritten = λ none. absurd none;
      refused = λ refusal e. absurd cc;
      write = λ why e.
          let one : fault ≡ why = cc in (
            subst (λ (f : WriteFault). well after ≡ health_after f) one ends.0,
            λ parts told. (ends.1.0, ends.1.1, made parts told ends.1.0 ends.1.2, ends.1.3),
          );
      lost = λ loss e. absurd cc;
      memory = λ e. absurd cc;
      no_other = λ parts ids millis facts told state are_well is_well unhindered. absurd (ill (well after) fault ends.0 is_well);
    }
    ended reads (Err stops.OutOfMemory) ends = record {
      reads = stopped none_known stops.OutOfMemory reads;
      ok = λ e. absurd cc;
      unwritten = λ none. absurd none;
      refused = λ refusal e. absurd cc;
      write = λ fault e. absurd cc;
      lost = λ loss e. absurd cc;
      memory = λ e. inr (
        ends.0,
        reads.read_out,
        ends.1,
        elim ends.2 [
          | inl front ↦ inl (λ parts told. (front.0, front.1, made parts told front.0 front.2, front.3))
          | inr refused ↦ inr (inr (refused.0.0, (heap, refused.0.1, agree)), refused.1)
        ],
      );
      no_other = λ parts ids millis facts told state are_well is_well unhindered. absurd (unhindered tt);
    }
    ended reads (Err (stops.Refused refusal)) ends = record {
      reads = stopped none_known (stops.Refused refusal) reads;
      ok = λ e. absurd cc;
      unwritten = λ _. ends.1;
      refused = λ other e.
          let same : refusal ≡ other = cc in
          let is = subst (λ (r : HeapFault). Refuses r heap) same ends.0 in
          (inr (heap, is, agree), λ parts told. (heap, is, agree parts told));
      write = λ fault e. absurd cc;
      lost = λ loss e. absurd cc;
      memory = λ e. absurd cc;
      no_other = λ parts ids millis facts told state are_well is_well unhindered. absurd (unhindered tt);
    }
