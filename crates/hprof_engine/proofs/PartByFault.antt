-- What reading one part comes to, by its fault.
use Rattle.std.proofs.Common.{◌≡◌, ℕ, ◌+◌, ◌-◌, ◌^◌, ◌≤◌, min, Bool, false, List, [], ◌∷◌, ◌++◌, take, Option, Some, None, Ok, Err}
use Rattle.std.proofs.Common.{sym, ap, subst, ◌∙◌, append-nil}
use Rattle.std.specs.Io.KnownBytes.{Consumes, IsAtEnd}
use Rattle.hprof_items.specs.declared.header.Header.{Header}
use Rattle.hprof_items.specs.FactValue.{FactValue}
use Rattle.hprof_devices.specs.declared.health.Health.{Health}
use Rattle.hprof_stream.specs.Reader.{IsReadingFault}
use Rattle.hprof_stream.specs.declared.limits.Limits.{Limits}
use Rattle.hprof_stream.specs.declared.part_fault.PartFault.{PartFault}
use Rattle.hprof_stream.specs.declared.part_fault.PartFault.TheVariants as faults
use Rattle.hprof_stream.specs.declared.sink.SinkFault.{SinkFault}
use Rattle.hprof_stream.specs.declared.sink.SinkFault.TheVariants as sinks
use Rattle.hprof_stream.specs.declared.summary.PartSummary.{PartSummary}
use Rattle.hprof_stream.specs.Run.{Run, Steps}
use Rattle.hprof_stream.specs.Fault.{StatesSoFar}
use Rattle.hprof_stream.specs.Reader.{RanOver, ReadsPart}
use Rattle.hprof_heap.specs.Gathering.{Gathered, Given, nothing_gathered, Begins, Takes, LacksRow, Gathers}
use Rattle.hprof_engine.specs.Joining.{IsPartFault, none_known}
use Rattle.hprof_engine.proofs.Gathered.{Run-shown, Run-sound}
use Rattle.hprof_engine.proofs.PartFaults.{fault_of_came, of_part}
use Rattle.hprof_engine.specs.Salvaging.{EndsPart, is_want_of_memory, IsReadSo}
use Rattle.hprof_engine.proofs.SavedParts.{counted_with, whole_states, handled_all}

-- a part that was read to its end came whole
whole_came : (bytes : List ℕ) (rest : Option (List ℕ)) (came : List ℕ) → Consumes (Some bytes) rest came → IsAtEnd rest → bytes ≡ came
whole_came bytes None came consumes ends = absurd consumes
whole_came bytes (Some rest) came consumes ends = consumes ∙ ap (λ (r : List ℕ). came ++ r) ends ∙ append-nil came

-- a gatherer that counts parts, by what it has gathered and how many it counted
module _ {G : Type 0} (gathered : G → Gathered) (parts : G → ℕ) where
  abbrev pub begins : G → Header → G → Type 0
  begins old header new = Begins (gathered old) header (gathered new) × (parts new ≡ min (parts old + 1) (2 ^ 64 - 1))

  abbrev pub steps : G → FactValue → G → Type 0
  steps old fact new = Takes (gathered old) fact (gathered new) × (parts new ≡ parts old)

  abbrev pub refuses : G → List FactValue → SinkFault → G → Type 0
  refuses counter given fault new = (gathered counter).failed ≡ false → (fault ≡ sinks.OutOfMemory) × LacksRow (gathered counter) given

  abbrev pub has_failed : G → Bool
  has_failed counter = (gathered counter).failed

  -- facts count no part
  steps_count : (old new : G) (facts : List FactValue) → Steps begins steps old facts new → parts new ≡ parts old
  steps_count old new [] run = ap parts (sym run)
  steps_count old new (fact ∷ facts) run = steps_count run.0 new facts run.2 ∙ run.1.1

  -- a header counts one
  run_counts : (old new : G) (header : Option Header) (facts : List FactValue) → Run begins steps old header facts new
      → parts new ≡ counted_with header (parts old)
  run_counts old new None facts run = steps_count old new facts run
  run_counts old new (Some header) facts run = steps_count run.0 new facts run.2 ∙ run.1.1

  -- what was saved of a part, and what the gatherer makes of it
  pub record TakesSaved (longest : ℕ) (bytes : List ℕ) (old new : G) : Type 0 where
    pub header : Option Header
    pub facts : List FactValue
    pub states : StatesSoFar longest bytes header facts
    pub run : Run Begins Takes (gathered old) header facts (gathered new)
    pub sound : (gathered new).failed ≡ false
    pub counts : parts new ≡ counted_with header (parts old)

  takes_saved : (longest : ℕ) (bytes : List ℕ) (old new : G) (header : Option Header) (facts : List FactValue)
      → (gathered old).failed ≡ false → StatesSoFar longest bytes header facts → Run begins steps old header facts new
      → TakesSaved longest bytes old new
  takes_saved longest bytes old new header facts sound states run =
      let shown = Run-shown gathered begins steps (λ from head to is. is.0) (λ from fact to is. is.0) old new header facts run in
      record {
        header = header;
        facts = facts;
        states = states;
        run = shown;
        sound = Run-sound (gathered old) (gathered new) header facts shown sound;
        counts = run_counts old new header facts run;
      }

  module _ {R : Type 0} (left : R → Option (List ℕ)) (health : R → Health) (pulls : R → ℕ) (limits : Limits) (was : R) (came : List ℕ)
      (is : R) (old new : G) (sound : (gathered old).failed ≡ false) where
    -- a part that was read to its end
    pub read_whole : Consumes (left was) (left is) came → pulls is ≤ pulls was + limits.max_reads → (summary : PartSummary)
        → ReadsPart left health pulls begins steps refuses has_failed limits was came is old (Ok summary) new
        → IsReadSo left health pulls limits was is (record { came = came; fault = None })
        × TakesSaved limits.max_item (take limits.max_bytes came) old new
    read_whole consumed spared summary reads =
        let all = handled_all limits came (reads.4, reads.3) in
        let states = whole_states limits.max_item came summary reads.6.0 reads.4 reads.5 reads.6.1 in (
          record {
            consumed = consumed;
            spared = spared;
            ends = (reads.0, reads.1, reads.2, (reads.4, reads.3));
            whole = λ bytes told. whole_came bytes (left is) came
                (subst (λ (l : Option (List ℕ)). Consumes l (left is) came) told consumed) reads.1;
          },
          takes_saved limits.max_item (take limits.max_bytes came) old new (Some summary.header) reads.6.0 sound
              (subst (λ (b : List ℕ). StatesSoFar limits.max_item b (Some summary.header) reads.6.0) (sym all) states) reads.6.2,
        )

    -- what a part with that fault says of the whole, and what was run over before
    module _ (earlier : List Given) (gathers : Gathers nothing_gathered earlier (gathered old)) where
      -- with which fault it is refused
      pub refused_so : (fault : PartFault)
          → ReadsPart left health pulls begins steps refuses has_failed limits was came is old (Err fault) new
          → IsPartFault left health pulls none_known limits earlier was came is fault
      refused_so fault reads = fault_of_came gathered begins steps refuses has_failed (λ from head to it. it.0) (λ from fact to it. it.0)
          (λ from given why to it. it) left health pulls limits earlier was came is old new fault sound gathers reads

      ran_over : (fault : PartFault) → is_want_of_memory fault ≡ false
          → IsPartFault left health pulls none_known limits earlier was came is fault
          → ReadsPart left health pulls begins steps refuses has_failed limits was came is old (Err fault) new
          → (header : Option Header) × RanOver begins steps limits.max_item (take limits.max_bytes came) [] None header old new
      ran_over (faults.Malformed at reason) other why reads = reads.1
      ran_over (faults.ItemTooLong at) other why reads = reads.1
      ran_over faults.OutOfMemory other why reads = absurd cc
      ran_over (faults.Sink sinks.OutOfMemory) other why reads = absurd cc
      ran_over (faults.Sink sinks.Failed) other why reads = absurd why
      ran_over faults.Failed other why reads = absurd why
      ran_over faults.Read other why reads = reads.1
      ran_over faults.ReadsExceeded other why reads = reads.1
      ran_over faults.BytesExceeded other why reads = reads.1

      -- how reading it ended: no gatherer that was not refused memory fails
      ended_so : (fault : PartFault) → is_want_of_memory fault ≡ false
          → IsPartFault left health pulls none_known limits earlier was came is fault
          → IsReadingFault left health pulls limits was came is fault
          → EndsPart left health pulls limits was came is (Some fault)
      ended_so (faults.Sink sinks.OutOfMemory) other why reading = absurd cc
      ended_so (faults.Sink sinks.Failed) other why reading = absurd why
      ended_so (faults.Malformed at reason) other why reading = (reading, other)
      ended_so (faults.ItemTooLong at) other why reading = (reading, other)
      ended_so faults.OutOfMemory other why reading = absurd cc
      ended_so faults.Failed other why reading = absurd why
      ended_so faults.Read other why reading = (reading, other)
      ended_so faults.ReadsExceeded other why reading = (reading, other)
      ended_so faults.BytesExceeded other why reading = (reading, other)

      -- a part with a fault that is no want of memory
      pub read_faulty : Consumes (left was) (left is) came → pulls is ≤ pulls was + limits.max_reads → (fault : PartFault)
          → is_want_of_memory fault ≡ false
          → ReadsPart left health pulls begins steps refuses has_failed limits was came is old (Err fault) new
          → IsReadSo left health pulls limits was is (record { came = came; fault = Some fault })
          × TakesSaved limits.max_item (take limits.max_bytes came) old new
      read_faulty consumed spared fault other reads =
          let why = refused_so fault reads in
          let over = ran_over fault other why reads in (
            record {
              consumed = consumed;
              spared = spared;
              ends = ended_so fault other why reads.0;
              whole = λ bytes told. of_part left health pulls none_known limits earlier was bytes came is fault told consumed why;
            },
            takes_saved limits.max_item (take limits.max_bytes came) old new over.0 over.1.handed sound over.1.states over.1.ran,
          )
