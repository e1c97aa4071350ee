-- What saving what can be saved of parts tells, into a stream and of files.
use Rattle.std.proofs.Common.{◌≡◌, ◌⊎◌, inl, inr, ℕ, List, length, Option, Result, Ok, Err, refl, sym, ap, subst}
use Rattle.std.specs.Prelude.{IfOk, IfErr, OnOk, OnErr}
use Rattle.std.specs.Borrow.{Bor}
use Rattle.std.specs.Io.KnownBytes.{Appends, Keeps, append_known}
use Rattle.std.proofs.KnownBytes.{Appends-kept}
use Rattle.std.proofs.Math.Seq.{take-length}
use Rattle.hprof_devices.specs.declared.health.Health.{Health}
use Rattle.hprof_devices.specs.declared.health.Health.TheVariants as healths
use Rattle.hprof_devices.specs.declared.health.WriteFault.{WriteFault}
use Rattle.hprof_devices.specs.declared.health.WriteFault.TheVariants as write_faults
use Rattle.hprof_dump.specs.Dump.{canonical_dump}
use Rattle.hprof_heap.specs.declared.standing.Refusal.{Refusal}
use Rattle.hprof_engine.specs.declared.tool_fault.ToolFault.{ToolFault}
use Rattle.hprof_engine.specs.declared.tool_fault.ToolFault.TheVariants as tool
use Rattle.hprof_engine.specs.declared.salvaged.Salvaged.{Salvaged}
use Rattle.hprof_engine.specs.Salvaging.{RefusesAll, Salvages, SavesAll, StopsWriting}
use Rattle.hprof_stored.specs.SalvagingStored.{SalvagesStored, WritesFrontOrNothing}
use Rattle.hprof_tool.specs.Folder.{Answered, AreOpened}
use Rattle.hprof_tool.specs.declared.program.refused.Refused.{Refused}
use Rattle.hprof_tool.specs.declared.program.refused.Refused.TheVariants as refusals
use Rattle.hprof_tool.specs.Program.{usual_limits, refused_of, IsOfStarting}
use Rattle.hprof_tool.specs.SalvagedFiles.{SalvagesStream, SalvagesFiles, IsSalvageRefusal}

module _ {R : Type 0} (left : R → Option (List ℕ)) (health : R → Health) (pulls : R → ℕ) (old new : List R) where
  -- what saving came to, of what holds this and is so, before and afterwards
  module _ {W : Type 0} (written : W → Option (List ℕ)) (well : W → Health) where
    abbrev IsSaved : (before after : W) → Result Salvaged ToolFault → Type 0
    IsSaved before after ended = Salvages left health pulls usual_limits old new written well before after ended

    abbrev IsStored : (before after : W) → Result Salvaged ToolFault → Type 0
    IsStored before after ended = SalvagesStored left health pulls usual_limits old new written well before after ended

  -- what saving came to, of a stream that held this and was so, and holds that and is so
  module _ (held : Option (List ℕ)) (was : Health) (holds : Option (List ℕ)) (is : Health) (ended : Result Salvaged ToolFault) where
    abbrev pub OfHeap : Type 0
    OfHeap = IsSaved {W = Option (List ℕ) × Health} (λ stream. stream.0) (λ stream. stream.1) (held, was) (holds, is) ended

    -- objects were read again
    abbrev pub OfStored : Type 0
    OfStored = IsStored {W = Option (List ℕ) × Health} (λ stream. stream.0) (λ stream. stream.1) (held, was) (holds, is) ended

    abbrev pub OfStream : Type 0
    OfStream = OfHeap ⊎ OfStored

  -- ---- a device that is taken apart

  module _ {W : Type 0} (written : W → Option (List ℕ)) (well : W → Health) (before after : W) where
    -- it is as it was
    same_stream : after ≡ before → ◌≡◌ {A = Option (List ℕ) × Health} (written after, well after) (written before, well before)
    same_stream same = ap (λ (w : W). (written w, well w)) same

    -- nothing was written
    untouched : (refusal : Refusal) → RefusesAll left health pulls usual_limits old new written well before after refusal
        → RefusesAll left health pulls usual_limits old new {W = Option (List ℕ) × Health} (λ stream. stream.0) (λ stream. stream.1)
        (written before, well before) (written after, well after) refusal
    untouched refusal is = record {
      reads = is.reads;
      through = is.through;
      unwritten = same_stream is.unwritten;
    }

    -- all was written
    all_saved : (salvaged : Salvaged) → SavesAll left health pulls usual_limits old new written well before after salvaged
        → SavesAll left health pulls usual_limits old new {W = Option (List ℕ) × Health} (λ stream. stream.0) (λ stream. stream.1)
        (written before, well before) (written after, well after) salvaged
    all_saved salvaged is = record {
      reads = is.reads;
      heap = is.heap;
      through = is.through;
      listed = is.listed;
      parts_count = is.parts_count;
      facts_count = is.facts_count;
      wrote = is.wrote;
      is_well = is.is_well;
    }

    -- the writer failed
    stopped : (fault : WriteFault) → StopsWriting left health pulls usual_limits old new written well before after fault
        → StopsWriting left health pulls usual_limits old new {W = Option (List ℕ) × Health} (λ stream. stream.0) (λ stream. stream.1)
        (written before, well before) (written after, well after) fault
    stopped fault is = record {
      reads = is.reads;
      heap = is.heap;
      through = is.through;
      count = is.count;
      wrote = is.wrote;
      ill = is.ill;
    }

    -- a front was written, or nothing
    front_or_nothing : WritesFrontOrNothing left health pulls usual_limits old new written well before after
        → WritesFrontOrNothing left health pulls usual_limits old new {W = Option (List ℕ) × Health} (λ stream. stream.0)
        (λ stream. stream.1) (written before, well before) (written after, well after)
    front_or_nothing is = elim is [
      | inl same ↦ inl (same_stream same)
      | inr front ↦ inr (λ parts told.
          let it = front parts told in
          record {
            reads = it.reads;
            heap = it.heap;
            through = it.through;
            count = it.count;
            wrote = it.wrote;
          })
    ]

    -- what it holds, and its health
    shown_of_heap : (ended : Result Salvaged ToolFault) → IsSaved written well before after ended
        → OfHeap (written before) (well before) (written after) (well after) ended
    shown_of_heap (Ok salvaged) is = all_saved salvaged is
    shown_of_heap (Err (tool.Part index fault)) is = (is.0, same_stream is.1)
    shown_of_heap (Err tool.NoParts) is = untouched _ is
    shown_of_heap (Err tool.IdSizes) is = untouched _ is
    shown_of_heap (Err (tool.Conflict key)) is = untouched _ is
    shown_of_heap (Err (tool.Refused refusal)) is = absurd is
    shown_of_heap (Err (tool.Write fault)) is = stopped fault is
    shown_of_heap (Err (tool.Lost loss)) is = absurd is
    shown_of_heap (Err tool.OutOfMemory) is = (is.0, same_stream is.1)

    -- the same where objects were read again
    shown_of_stored : (ended : Result Salvaged ToolFault) → IsStored written well before after ended
        → OfStored (written before) (well before) (written after) (well after) ended
    shown_of_stored (Ok salvaged) is = record {
      read = is.read;
      listed = is.listed;
      is_well = is.is_well;
      saves = λ parts told. all_saved salvaged (is.saves parts told);
    }
    shown_of_stored (Err (tool.Part index fault)) is = (is.0, same_stream is.1)
    shown_of_stored (Err tool.NoParts) is = untouched _ is
    shown_of_stored (Err tool.IdSizes) is = untouched _ is
    shown_of_stored (Err (tool.Conflict key)) is = (same_stream is.0, λ parts told. untouched _ (is.1 parts told))
    shown_of_stored (Err (tool.Refused refusal)) is = absurd is
    shown_of_stored (Err (tool.Write fault)) is = (is.0, λ parts told. stopped fault (is.1 parts told))
    shown_of_stored (Err (tool.Lost loss)) is = (front_or_nothing is.0, is.1)
    shown_of_stored (Err tool.OutOfMemory) is = elim is [
      | inl none ↦ inl (none.0, same_stream none.1)
      | inr all ↦ inr (all.0, all.1, front_or_nothing all.2)
    ]

    pub shown_saving : (ended : Result Salvaged ToolFault)
        → IsSaved written well before after ended ⊎ IsStored written well before after ended
        → OfStream (written before) (well before) (written after) (well after) ended
    shown_saving ended is = elim is [
      | inl heap ↦ inl (shown_of_heap ended heap)
      | inr stored ↦ inr (shown_of_stored ended stored)
    ]

  -- ---- a buffer that is flushed

  module _ (held holds end : Option (List ℕ)) (was is : Health) (keeps : Keeps holds end) (salvaged : Salvaged) where
    -- all was written, and what is held stays
    kept_of_heap : OfHeap held was holds is (Ok salvaged) → OfHeap held was end healths.Well (Ok salvaged)
    kept_of_heap saves = record {
      reads = saves.reads;
      heap = saves.heap;
      through = saves.through;
      listed = saves.listed;
      parts_count = saves.parts_count;
      facts_count = saves.facts_count;
      wrote = Appends-kept held holds end (canonical_dump saves.heap.ids saves.heap.millis saves.heap.facts) saves.wrote keeps;
      is_well = refl;
    }

    kept_saving : OfStream held was holds is (Ok salvaged) → OfStream held was end healths.Well (Ok salvaged)
    kept_saving saves = elim saves [
      | inl heap ↦ inl (kept_of_heap heap)
      | inr stored ↦ inr (record {
        read = stored.read;
        listed = stored.listed;
        is_well = refl;
        saves = λ parts told. kept_of_heap (stored.saves parts told);
      })
    ]

    -- all was written, and then the writer failed
    failed_of_heap : OfHeap held was holds is (Ok salvaged) → OfHeap held was end healths.Failed (Err (tool.Write write_faults.Failed))
    failed_of_heap saves =
        let dump : List ℕ = canonical_dump saves.heap.ids saves.heap.millis saves.heap.facts in
        record {
          reads = saves.reads;
          heap = saves.heap;
          through = saves.through;
          count = length dump;
          wrote = subst (Appends held end) (sym (take-length dump)) (Appends-kept held holds end dump saves.wrote keeps);
          ill = refl;
        }

    failed_saving : OfStream held was holds is (Ok salvaged) → OfStream held was end healths.Failed (Err (tool.Write write_faults.Failed))
    failed_saving saves = elim saves [
      | inl heap ↦ inl (failed_of_heap heap)
      | inr stored ↦ inr (refl, λ parts told. failed_of_heap (stored.saves parts told))
    ]

  module _ (held holds end : Option (List ℕ)) (was is : Health) where
    -- what was saved, and then flushed
    flushed_saving : (made outcome : Result Salvaged ToolFault) → OfStream held was holds is made
        → IfOk outcome (λ value. made ≡ Ok value) → OnOk made (OnErr outcome (outcome ≡ Err (tool.Write write_faults.Failed)))
        → IfErr made (λ fault. outcome ≡ Err fault) → Keeps holds end → OnErr made (end ≡ holds)
        → (last : Health) × OfStream held was end last outcome
    flushed_saving (Ok salvaged) (Ok value) saves done failed refused keeps same = (
      healths.Well,
      subst (OfStream held was end healths.Well) done (kept_saving held holds end was is keeps salvaged saves),
    )
    flushed_saving (Ok salvaged) (Err fault) saves done failed refused keeps same = (
      healths.Failed,
      subst (OfStream held was end healths.Failed) (sym failed) (failed_saving held holds end was is keeps salvaged saves),
    )
    flushed_saving (Err fault) outcome saves done failed refused keeps same = (
      is,
      subst (OfStream held was end is) (sym refused)
          (subst (λ (h : Option (List ℕ)). OfStream held was h is (Err fault)) (sym same) saves),
    )

    -- the same of the stream that was there at first, and is at last
    pub streamed_saving : (first last : Option (List ℕ)) (made outcome : Result Salvaged ToolFault) → held ≡ first
        → was ≡ healths.Well → end ≡ last → OfStream held was holds is made → IfOk outcome (λ value. made ≡ Ok value)
        → OnOk made (OnErr outcome (outcome ≡ Err (tool.Write write_faults.Failed))) → IfErr made (λ fault. outcome ≡ Err fault)
        → Keeps holds end → OnErr made (end ≡ holds) → SalvagesStream left health pulls old new first last outcome
    streamed_saving first last made outcome at_first well at_last saves done failed refused keeps same =
        let it = flushed_saving made outcome saves done failed refused keeps same in (
          it.0,
          subst (λ (h : Option (List ℕ)). OfStream h healths.Well last it.0 outcome) at_first
              (subst (λ (w : Health). OfStream held w last it.0 outcome) well
              (subst (λ (h : Option (List ℕ)). OfStream held was h it.0 outcome) at_last it.1)),
        )

-- ---- files

module _ {P W : Type 0} (answered : Answered P W) (left : P → Option (List ℕ)) (health : P → Health) (pulls : P → ℕ)
    (contents : W → Option (List ℕ)) (names : List (Bor (List ℕ))) (out : List ℕ) where
  abbrev Refuses : Refused → Type 0
  Refuses = IsSalvageRefusal answered left health pulls contents names out

  -- a refusal to start the new file is one of these refusals
  pub starting_saves : (refused : Refused) → IsOfStarting answered names out refused → Refuses refused
  starting_saves (refusals.Engine fault) is = absurd is
  starting_saves (refusals.Dump place fault) is = absurd is
  starting_saves (refusals.Open index) is = is
  starting_saves refusals.Create is = is
  starting_saves refusals.Questions is = absurd is
  starting_saves refusals.OutOfMemory is = is

  module _ (old new : List P) (opened : AreOpened answered names old) (was is : W) (unwritten : List ℕ) where
    -- what saving what can be saved of the parts that were opened came to
    pub files_saved : (holds : Option (List ℕ)) (ended : Result Salvaged ToolFault)
        → SalvagesStream left health pulls old new (contents was) holds ended
        → SalvagesFiles answered left health pulls names (contents was) holds ended
    files_saved holds ended saves = record { old = old; new = new; opened = opened; salvages = saves }

    abbrev Ended : ToolFault → Type 0
    Ended fault = SalvagesStream left health pulls old new (contents was) (append_known (contents is) unwritten) (Err fault)

    -- a refusal of the engine is one, where no new file is left
    pub engine_saves : (fault : ToolFault) → Ended fault → answered.IsCreated out was → answered.HasNone out → Refuses (refused_of fault)
    engine_saves (tool.Part index fault) saves created none = (was, is, unwritten, created, files_saved _ _ saves, none)
    engine_saves tool.NoParts saves created none = (was, is, unwritten, created, files_saved _ _ saves, none)
    engine_saves tool.IdSizes saves created none = (was, is, unwritten, created, files_saved _ _ saves, none)
    engine_saves (tool.Conflict key) saves created none = (was, is, unwritten, created, files_saved _ _ saves, none)
    engine_saves (tool.Refused refusal) saves created none = (was, is, unwritten, created, files_saved _ _ saves, none)
    engine_saves (tool.Write fault) saves created none = (was, is, unwritten, created, files_saved _ _ saves, none)
    engine_saves (tool.Lost loss) saves created none = (was, is, unwritten, created, files_saved _ _ saves, none)
    engine_saves tool.OutOfMemory saves created none = none
