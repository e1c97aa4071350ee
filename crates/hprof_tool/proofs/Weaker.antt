-- What a call answers that makes something of parts, where less is said of memory and of what is read again.
use Rattle.std.proofs.Common.{inl, inr, ℕ, List, Option}
use Rattle.hprof_devices.specs.declared.health.Health.{Health}
use Rattle.hprof_items.specs.FactValue.{FactValue}
use Rattle.hprof_stream.specs.declared.limits.Limits.{Limits}
use Rattle.hprof_stream.specs.declared.part_fault.PartFault.{PartFault}
use Rattle.hprof_stream.specs.declared.part_fault.PartFault.TheVariants as faults
use Rattle.hprof_stream.specs.declared.sink.SinkFault.TheVariants as sinks
use Rattle.hprof_rows.specs.HeapValue.{HeapValue}
use Rattle.hprof_heap.specs.Gathering.{Given}
use Rattle.hprof_engine.specs.declared.heap_fault.HeapFault.{HeapFault}
use Rattle.hprof_engine.specs.declared.tool_fault.ToolFault.{ToolFault}
use Rattle.hprof_engine.specs.Joining.{IsPartFault, RefusesPart}
use Rattle.hprof_engine.specs.Makes.{Making, Makes, Reads}

module _ {R : Type 0} (left : R → Option (List ℕ)) (health : R → Health) (pulls : R → ℕ) (Known Other : List FactValue → Type 0)
    (known : (facts : List FactValue) → Known facts → Other facts) (limits : Limits) where
  other_fault : (earlier : List Given) (was : R) (came : List ℕ) (is : R) (fault : PartFault)
      → IsPartFault left health pulls Known limits earlier was came is fault
      → IsPartFault left health pulls Other limits earlier was came is fault
  other_fault earlier was came is (faults.Sink sinks.OutOfMemory) why = (
    why.0,
    elim why.1 [
      | inl is_known ↦ inl (known why.0.1.whole.last.facts is_known)
      | inr is_new ↦ inr is_new
    ],
  )
  other_fault earlier was came is (faults.Sink sinks.Failed) why = absurd why
  other_fault earlier was came is fault why = why

  other_part : (parts : List (List ℕ)) (old new : List R) (index : ℕ) (fault : PartFault)
      → RefusesPart left health pulls Known limits parts old new index fault
      → RefusesPart left health pulls Other limits parts old new index fault
  other_part parts old new index fault is = record {
    before = is.before;
    bytes = is.bytes;
    after = is.after;
    in_order = is.in_order;
    place = is.place;
    accepted = is.accepted;
    given = is.given;
    stated = is.stated;
    at = record {
      was = is.at.was;
      is = is.at.is;
      was_there = is.at.was_there;
      is_there = is.at.is_there;
      came = is.at.came;
      consumed = is.at.consumed;
      spared = is.at.spared;
      refused = other_fault is.given is.at.was is.at.came is.at.is fault is.at.refused;
      unread = is.at.unread;
    };
    told = is.told;
    of_part = is.of_part;
  }

  pub other_reads : (old new : List R) (ended : Option ToolFault) → Reads left health pulls Known limits old new ended
      → Reads left health pulls Other limits old new ended
  other_reads old new ended reads = record {
    no_parts = reads.no_parts;
    id_sizes = reads.id_sizes;
    conflict = reads.conflict;
    part = λ index fault e parts told. other_part parts old new index fault (reads.part index fault e parts told);
    accepted = reads.accepted;
    read_out = reads.read_out;
  }

  module _ (IsMade : List (List ℕ) → List ℕ → Type 0) (Refuses : HeapFault → HeapValue → Type 0) (Room OtherRoom : ℕ → Type 0)
      (Memory OtherMemory Again OtherAgain : Type 0) (room : (count : ℕ) → Room count → OtherRoom count) (memory : Memory → OtherMemory)
      (again : Again → OtherAgain) where
    abbrev pub strong : Making
    strong = record {
      IsMade = IsMade;
      Refuses = Refuses;
      TakesRoom = Room;
      TakesMemory = Memory;
      TakesKnown = Known;
      ReadsAgain = Again;
    }

    abbrev pub weak : Making
    weak = record {
      IsMade = IsMade;
      Refuses = Refuses;
      TakesRoom = OtherRoom;
      TakesMemory = OtherMemory;
      TakesKnown = Other;
      ReadsAgain = OtherAgain;
    }

    pub weaker : {W : Type 0} (written : W → Option (List ℕ)) (well : W → Health) (old new : List R) (before after : W)
        (ended : Option ToolFault) → Makes left health pulls written well limits strong old new before after ended
        → Makes left health pulls written well limits weak old new before after ended
    weaker written well old new before after ended makes = record {
      reads = other_reads old new ended makes.reads;
      ok = makes.ok;
      unwritten = makes.unwritten;
      refused = λ refusal e.
          let is = makes.refused refusal e in (
            elim is.0 [
              | inl reads ↦ inl (again reads)
              | inr heap ↦ inr heap
            ],
            is.1,
          );
      write = makes.write;
      lost = λ loss e. let is = makes.lost loss e in (again is.0, is.1, is.2);
      memory = λ e. elim (makes.memory e) [
        | inl first ↦ inl (room _ first.0, first.1, first.2)
        | inr behind ↦ inr (
          memory behind.0,
          behind.1,
          behind.2,
          elim behind.3 [
            | inl front ↦ inl front
            | inr refused ↦ elim refused.0 [
              | inl reads ↦ inr (inl (again reads), refused.1)
              | inr heap ↦ inr (inr heap, refused.1)
            ]
          ],
        )
      ];
      no_other = makes.no_other;
    }
