-- What reading all parts, whatever their faults, comes to, and what a call that saves them answers if there is no heap.
use Rattle.std.proofs.Common.{◌≡◌, ◌==◌, ℕ, true, List, [], ◌∷◌, length, Option, Err, inl, inr, refl, sym}
use Rattle.hprof_devices.specs.declared.health.Health.{Health}
use Rattle.hprof_stream.specs.declared.limits.Limits.{Limits}
use Rattle.hprof_heap.specs.declared.standing.Refusal.{Refusal}
use Rattle.hprof_heap.specs.declared.standing.Refusal.TheVariants as refusals
use Rattle.hprof_heap.specs.Gathering.{Given, Tells}
use Rattle.hprof_objects.specs.Whole.{without_objects}
use Rattle.std.specs.Prelude.{map}
use Rattle.std.proofs.lemmas.Bool.{eqb-true}
use Rattle.hprof_engine.specs.declared.loss.Loss.TheVariants as losses
use Rattle.hprof_engine.specs.declared.salvaged.FaultedPart.{FaultedPart}
use Rattle.hprof_engine.specs.declared.tool_fault.ToolFault.{ToolFault}
use Rattle.hprof_engine.specs.declared.tool_fault.ToolFault.TheVariants as tool
use Rattle.hprof_engine.proofs.PartReads.{AreReadSo-none}
use Rattle.hprof_stored.specs.declared.stored_fault.StoredFault.{StoredFault}
use Rattle.hprof_stored.specs.declared.stored_fault.StoredFault.TheVariants as stops
use Rattle.hprof_stored.specs.Reading.{TellsStored}
use Rattle.hprof_stored.specs.Holding.{others_before}
use Rattle.hprof_stored.specs.SalvagingStored.{SalvagesStored}
use Rattle.hprof_stored.specs.SavedParts.{ReadsSaved, saved_before}
use Rattle.hprof_stored.specs.SavingThrough.{SavesHeap, StoresThrough}
use Rattle.hprof_stored.specs.StoredMaking.{fault_of_reading}
use Rattle.hprof_stored.specs.Storing.{Storing}
use Rattle.hprof_stored.proofs.Saved.{through}

-- what the law of objects says
abbrev pub RefuseAll : Type 0
RefuseAll = (parts : List Given) (refusal : Refusal) → Tells (map without_objects parts) (Err refusal) → Tells parts (Err refusal)

module _ {R S : Type 0} (left : R → Option (List ℕ)) (health : R → Health) (pulls : R → ℕ) (limits : Limits) (old new : List R)
    (written : S → Option (List ℕ)) (well : S → Health) (scratch : Option (List ℕ)) where
  -- reading ended before all parts were read
  pub reading_ended : (fault : ToolFault) (headed : ℕ) (listed : List FaultedPart) (it : Storing S)
      → StoresThrough left health pulls limits old new written well scratch headed listed (Err fault) it
      → SavesHeap left health pulls limits old new written well scratch (Err fault)
  reading_ended (tool.Part index fault) headed listed it ended = ended
  reading_ended tool.OutOfMemory headed listed it ended = inr ended
  reading_ended (tool.Lost losses.Scratch) headed listed it ended = tt
  reading_ended (tool.Lost (losses.Changed part)) headed listed it ended = absurd ended
  reading_ended (tool.Lost (losses.Read part)) headed listed it ended = absurd ended
  reading_ended (tool.Lost losses.Objects) headed listed it ended = absurd ended
  reading_ended tool.NoParts headed listed it ended = absurd ended
  reading_ended tool.IdSizes headed listed it ended = absurd ended
  reading_ended (tool.Conflict key) headed listed it ended = absurd ended
  reading_ended (tool.Refused refusal) headed listed it ended = absurd ended
  reading_ended (tool.Write write) headed listed it ended = absurd ended

  -- all were read, and there is no heap
  module _ (headed : ℕ) (listed : List FaultedPart) (read : ReadsSaved left health pulls limits old new (length old) headed listed)
      (refuse : RefuseAll) where
    pub no_heap : (fault : StoredFault) → TellsStored (others_before (saved_before scratch read.parts)) (Err fault)
        → SavesHeap left health pulls limits old new written well scratch (Err (fault_of_reading fault))
    no_heap stops.NoParts tells = (
      read.reads,
      through left health pulls limits old new headed listed read (Err refusals.NoParts)
          (refuse (saved_before scratch read.parts).given refusals.NoParts tells),
    )
    no_heap stops.IdSizes tells = (
      read.reads,
      through left health pulls limits old new headed listed read (Err refusals.IdSizes)
          (refuse (saved_before scratch read.parts).given refusals.IdSizes tells),
    )
    no_heap (stops.Conflict key) tells = (
      read.reads,
      through left health pulls limits old new headed listed read (Err (refusals.Conflict key))
          (refuse (saved_before scratch read.parts).given (refusals.Conflict key) tells),
    )
    no_heap (stops.Part index fault) tells = absurd tells
    no_heap (stops.Scratch why) tells = absurd tells

  -- ---- nothing was written

  module _ {W : Type 0} (stated : W → Option (List ℕ)) (fine : W → Health) (before after : W) (unwritten : after ≡ before) where
    pub saved_ended : (fault : ToolFault) → SavesHeap left health pulls limits old new written well scratch (Err fault)
        → SalvagesStored left health pulls limits old new stated fine before after (Err fault)
    saved_ended tool.NoParts ended = record { reads = ended.0; through = ended.1; unwritten = unwritten }
    saved_ended tool.IdSizes ended = record { reads = ended.0; through = ended.1; unwritten = unwritten }
    saved_ended (tool.Conflict key) ended =
        (unwritten, λ parts told. record { reads = ended.0; through = ended.1; unwritten = unwritten })
    saved_ended (tool.Part index fault) ended = (ended, unwritten)
    saved_ended tool.OutOfMemory ended = inl (ended, unwritten)
    saved_ended (tool.Lost losses.Scratch) ended = (inl unwritten, λ parts told change. change)
    saved_ended (tool.Lost (losses.Changed part)) ended = absurd ended
    saved_ended (tool.Lost (losses.Read part)) ended = absurd ended
    saved_ended (tool.Lost losses.Objects) ended = absurd ended
    saved_ended (tool.Refused refusal) ended = absurd ended
    saved_ended (tool.Write write) ended = absurd ended

-- there is no reader
pub none_there : {R : Type 0} (readers : List R) → true ≡ (length readers == 0) → readers ≡ []
none_there [] says = refl
none_there (reader ∷ readers) says =
    absurd (let no : length (reader ∷ readers) ≡ 0 = eqb-true (length (reader ∷ readers)) 0 (sym says) in cc)

-- there are no parts, and nothing is done
pub no_readers : {R W : Type 0} (left : R → Option (List ℕ)) (health : R → Health) (pulls : R → ℕ) (limits : Limits) (old : List R)
    (written : W → Option (List ℕ)) (well : W → Health) (target : W) → old ≡ []
    → SalvagesStored left health pulls limits old old written well target target (Err tool.NoParts)
no_readers left health pulls limits [] written well target none = record {
  reads = [];
  through = record {
    each = AreReadSo-none left health pulls limits [] [];
    all = refl;
    saves = record {
      given = [];
      saved = record { saved = []; of_parts = refl; each = tt; has_given = refl };
      tells = refl;
    };
  };
  unwritten = refl;
}
no_readers left health pulls limits (reader ∷ old) written well target none = absurd cc
