-- What reading one part comes to, whatever its fault.
use Rattle.std.proofs.Common.{◌≡◌, ◌+◌, ◌≤◌, ℕ, true, List, [], ◌++◌, length, take, Option, Some, None, Result, Ok, Err, refl, sym, ap}
use Rattle.std.proofs.Common.{subst, ◌∙◌, append-nil}
use Rattle.std.specs.Io.KnownBytes.{Consumes, IsAtEnd}
use Rattle.hprof_items.specs.declared.header.Header.{Header}
use Rattle.hprof_items.specs.FactValue.{FactValue}
use Rattle.hprof_devices.specs.declared.health.Health.{Health}
use Rattle.hprof_stream.specs.declared.limits.Limits.{Limits}
use Rattle.hprof_stream.specs.declared.part_fault.PartFault.{PartFault}
use Rattle.hprof_stream.specs.declared.part_fault.PartFault.TheVariants as faults
use Rattle.hprof_stream.specs.declared.summary.PartSummary.{PartSummary}
use Rattle.hprof_stream.specs.Fault.{StatesSoFar}
use Rattle.hprof_stream.specs.Reader.{IsReadingFault}
use Rattle.hprof_placed.specs.Handed.{Handed, handed_so, is_of_input}
use Rattle.hprof_placed.proofs.Listing.{handed_before, handed_whole}
use Rattle.hprof_engine.specs.Salvaging as salvaging
use Rattle.hprof_engine.specs.Salvaging.{EndsPart, IsReadSo, is_want_of_memory}
use Rattle.hprof_engine.specs.Joining.{IsPartFault}
use Rattle.hprof_engine.proofs.PartFaults.{of_part}
use Rattle.hprof_engine.proofs.SavedParts.{handled_all, whole_states}
use Rattle.hprof_stored.specs.Holding.{Earlier, HoldsStored}
use Rattle.hprof_stored.specs.SavingThrough.{is_listed}
use Rattle.hprof_stored.specs.Storing.{HaveObject, RefusesStored, Storing, storing}
use Rattle.hprof_stream.specs.declared.sink.SinkFault.TheVariants as sinks
use Rattle.hprof_placed.specs.Reading.{HoldsHanded, ListsPart}
use Rattle.hprof_devices.specs.declared.target.Target.{Ghosts}
use Rattle.hprof_stored.specs.declared.stored_sink.StoredSink.{StoredSink}
use Rattle.hprof_stored.proofs.Read.{is_fault_of_part}

-- ---- what reading one part comes to

-- a part that was read to its end came whole
whole_came : (bytes : List ℕ) (rest : Option (List ℕ)) (came : List ℕ) → Consumes (Some bytes) rest came → IsAtEnd rest → bytes ≡ came
whole_came bytes None came consumes ends = absurd consumes
whole_came bytes (Some rest) came consumes ends = consumes ∙ ap (λ (r : List ℕ). came ++ r) ends ∙ append-nil came

-- these bytes came, which state that so far, and the sink holds it
pub record ReadsOne {R S : Type 0} (left : R → Option (List ℕ)) (health : R → Health) (pulls : R → ℕ) (limits : Limits) (was is : R)
    (written : S → Option (List ℕ)) (well : S → Health) (earlier : Earlier) (fault : Option PartFault) (it : Storing S) : Type 0 where
  pub came : List ℕ
  pub so : IsReadSo left health pulls limits was is (record { came = came; fault = fault })
  pub header : Option Header
  pub facts : List FactValue
  pub states : StatesSoFar limits.max_item (take limits.max_bytes came) header facts
  pub before : List ℕ
  pub piece : List ℕ
  pub cut : came ≡ before ++ piece
  pub held : HoldsStored written well limits earlier header before facts it

-- a fault that is listed is one of the input, unless it comes after another
listed_of_input : (fault : PartFault) → is_listed fault ≡ true → (fault ≡ faults.Failed → ⊥) → is_of_input fault ≡ true
listed_of_input (faults.Malformed at reason) is other = refl
listed_of_input (faults.ItemTooLong at) is other = refl
listed_of_input faults.OutOfMemory is other = absurd cc
listed_of_input (faults.Sink fault) is other = absurd cc
listed_of_input faults.Failed is other = absurd (other refl)
listed_of_input faults.Read is other = refl
listed_of_input faults.ReadsExceeded is other = refl
listed_of_input faults.BytesExceeded is other = refl

module _ {R S : Type 0} (left : R → Option (List ℕ)) (health : R → Health) (pulls : R → ℕ) (limits : Limits) (was is : R)
    (came : List ℕ) (handed : Handed) (consumed : Consumes (left was) (left is) came)
    (spared : pulls is ≤ pulls was + limits.max_reads) (written : S → Option (List ℕ)) (well : S → Health) (earlier : Earlier)
    (before piece : List ℕ) (cut : came ≡ before ++ piece) (it : Storing S)
    (held : HoldsStored written well limits earlier handed.header before handed.facts it) where
  held_so : (header : Option Header) (facts : List FactValue) → handed ≡ handed_so header facts
      → HoldsStored written well limits earlier header before facts it
  held_so header facts same =
      subst (λ (h : Handed). HoldsStored written well limits earlier h.header before h.facts it) same held

  -- to its end
  pub one_whole : (summary : PartSummary) → ListsPart left health pulls limits was came is (Ok summary) handed
      → ReadsOne left health pulls limits was is written well earlier None it
  one_whole summary reads =
      let whole = handed_whole left health pulls limits was is came summary handed reads in
      record {
        came = came;
        so = record {
          consumed = consumed;
          spared = spared;
          ends = (reads.0, reads.1, reads.2, (reads.4, reads.3));
          whole = λ bytes told. whole_came bytes (left is) came
              (subst (λ (l : Option (List ℕ)). Consumes l (left is) came) told consumed) reads.1;
        };
        header = Some summary.header;
        facts = whole.0;
        states = subst (λ (b : List ℕ). StatesSoFar limits.max_item b (Some summary.header) whole.0)
            (sym (handled_all limits came (reads.4, reads.3)))
            (whole_states limits.max_item came summary whole.0 reads.4 reads.5 whole.2);
        before = before;
        piece = piece;
        cut = cut;
        held = held_so (Some summary.header) whole.0 whole.1;
      }

  ended_so : (fault : PartFault) → is_listed fault ≡ true → IsReadingFault left health pulls limits was came is fault
      → EndsPart left health pulls limits was came is (Some fault)
  ended_so (faults.Malformed at reason) listed reading = (reading, refl)
  ended_so (faults.ItemTooLong at) listed reading = (reading, refl)
  ended_so faults.OutOfMemory listed reading = absurd cc
  ended_so (faults.Sink fault) listed reading = absurd cc
  ended_so faults.Failed listed reading = absurd reading
  ended_so faults.Read listed reading = (reading, refl)
  ended_so faults.ReadsExceeded listed reading = (reading, refl)
  ended_so faults.BytesExceeded listed reading = (reading, refl)

  of_whole : (fault : PartFault) → is_listed fault ≡ true → IsReadingFault left health pulls limits was came is fault
      → (bytes : List ℕ) → left was ≡ Some bytes → salvaging.IsOfWhole limits bytes came (Some fault)
  of_whole (faults.Malformed at reason) listed reading bytes told =
      of_part left health pulls HaveObject limits [] was bytes came is (faults.Malformed at reason) told consumed reading
  of_whole (faults.ItemTooLong at) listed reading bytes told =
      of_part left health pulls HaveObject limits [] was bytes came is (faults.ItemTooLong at) told consumed reading
  of_whole faults.OutOfMemory listed reading bytes told = absurd cc
  of_whole (faults.Sink fault) listed reading bytes told = absurd cc
  of_whole faults.Failed listed reading bytes told = absurd reading
  of_whole faults.Read listed reading bytes told = tt
  of_whole faults.ReadsExceeded listed reading bytes told =
      of_part left health pulls HaveObject limits [] was bytes came is faults.ReadsExceeded told consumed reading
  of_whole faults.BytesExceeded listed reading bytes told =
      of_part left health pulls HaveObject limits [] was bytes came is faults.BytesExceeded told consumed reading

  never_failed : (fault : PartFault) → IsReadingFault left health pulls limits was came is fault → fault ≡ faults.Failed → ⊥
  never_failed fault reading same =
      subst (λ (f : PartFault). IsReadingFault left health pulls limits was came is f) same reading

  -- up to its fault
  pub one_faulty : (fault : PartFault) → is_listed fault ≡ true → ListsPart left health pulls limits was came is (Err fault) handed
      → ReadsOne left health pulls limits was is written well earlier (Some fault) it
  one_faulty fault listed reads =
      let first = handed_before left health pulls limits was is came fault handed reads
      (listed_of_input fault listed (never_failed fault reads.0)) in
      record {
        came = came;
        so = record {
          consumed = consumed;
          spared = spared;
          ends = ended_so fault listed reads.0;
          whole = of_whole fault listed reads.0;
        };
        header = first.0;
        facts = first.1.0;
        states = first.1.2;
        before = before;
        piece = piece;
        cut = cut;
        held = held_so first.0 first.1.0 first.1.1;
      }

-- the part that is being read has the number of those before it
pub number_one : {R S : Type 0} (left : R → Option (List ℕ)) (health : R → Health) (pulls : R → ℕ) (limits : Limits) (was is : R)
    (written : S → Option (List ℕ)) (well : S → Health) (earlier : Earlier) (fault : Option PartFault) (it : Storing S)
    → ReadsOne left health pulls limits was is written well earlier fault it → it.part ≡ length earlier.reads
number_one left health pulls limits was is written well earlier fault it one = by one.header one.held
  where
    by : (header : Option Header) → HoldsStored written well limits earlier header one.before one.facts it → it.part ≡ length earlier.reads
    by None held = held.number
    by (Some header) held = held.number

-- ---- what the sink comes to hold

module _ {R S : Type 0} {g : Ghosts S} (left : R → Option (List ℕ)) (health : R → Health) (pulls : R → ℕ) (limits : Limits) (was is : R)
    (written : S → Option (List ℕ)) (well : S → Health) (earlier : Earlier) (came : List ℕ) (handed : Handed)
    (new : StoredSink S g) where
  abbrev HoldsIt : StoredSink S g → Limits → Option Header → List ℕ → List FactValue → Type 0
  HoldsIt it within header bytes facts = HoldsStored written well within earlier header bytes facts (storing it)

  abbrev pub Comes : Result PartSummary PartFault → Type 0
  Comes result =
      HoldsHanded HoldsIt
      (λ (old : StoredSink S g) given why (it : StoredSink S g). RefusesStored (storing old) given why (storing it))
      (λ (it : StoredSink S g). it.failed) limits came result handed new

  pub came_whole : (summary : PartSummary) → Consumes (left was) (left is) came → pulls is ≤ pulls was + limits.max_reads
      → ListsPart left health pulls limits was came is (Ok summary) handed → Comes (Ok summary)
      → ReadsOne left health pulls limits was is written well earlier None (storing new)
  came_whole summary consumed spared reads comes =
      one_whole left health pulls limits was is came handed consumed spared written well earlier comes.before comes.piece comes.parts
      (storing new) comes.held summary reads

  pub came_faulty : (fault : PartFault) → is_listed fault ≡ true → Consumes (left was) (left is) came
      → pulls is ≤ pulls was + limits.max_reads → ListsPart left health pulls limits was came is (Err fault) handed → Comes (Err fault)
      → ReadsOne left health pulls limits was is written well earlier (Some fault) (storing new)
  came_faulty (faults.Sink fault) listed consumed spared reads comes = absurd cc
  came_faulty fault listed consumed spared reads comes =
      one_faulty left health pulls limits was is came handed consumed spared written well earlier comes.before comes.piece comes.parts
      (storing new) comes.held fault listed reads

  -- memory was wanted
  pub came_wanting : (fault : PartFault) → is_want_of_memory fault ≡ true
      → ListsPart left health pulls limits was came is (Err fault) handed → Comes (Err fault)
      → IsPartFault left health pulls HaveObject limits earlier.given was came is fault
  came_wanting faults.OutOfMemory memory reads comes = reads.0
  came_wanting (faults.Sink sinks.OutOfMemory) memory reads comes =
      is_fault_of_part written well limits earlier left health pulls was is came comes.1.before handed (storing comes.0)
      (storing new) comes.1.held
      reads comes.2.0
  came_wanting (faults.Sink sinks.Failed) memory reads comes = absurd cc
  came_wanting (faults.Malformed at reason) memory reads comes = absurd cc
  came_wanting (faults.ItemTooLong at) memory reads comes = absurd cc
  came_wanting faults.Failed memory reads comes = absurd cc
  came_wanting faults.Read memory reads comes = absurd cc
  came_wanting faults.ReadsExceeded memory reads comes = absurd cc
  came_wanting faults.BytesExceeded memory reads comes = absurd cc
