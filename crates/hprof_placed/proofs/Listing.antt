-- What a sink that lists was handed, by what reading a part came to.
use Rattle.std.proofs.Common.{◌≡◌, ℕ, true, List, [], take, Option, Some, None, Ok, Err, sym, ap, ◌∙◌}
use Rattle.hprof_devices.specs.declared.health.Health.{Health}
use Rattle.hprof_items.specs.declared.header.Header.{Header}
use Rattle.hprof_items.specs.FactValue.{FactValue}
use Rattle.hprof_stream.specs.declared.limits.Limits.{Limits}
use Rattle.hprof_stream.specs.declared.part_fault.PartFault.{PartFault}
use Rattle.hprof_stream.specs.declared.part_fault.PartFault.TheVariants as faults
use Rattle.hprof_stream.specs.declared.sink.SinkFault.{SinkFault}
use Rattle.hprof_stream.specs.declared.summary.PartSummary.{PartSummary}
use Rattle.hprof_stream.specs.Fault.{StatesSoFar}
use Rattle.hprof_stream.specs.Item.{header_before}
use Rattle.hprof_stream.specs.Part.{IsPart}
use Rattle.hprof_stream.specs.Reader.{BeginsWhole, RanOver, RefusesLast}
use Rattle.hprof_placed.specs.Handed.{Handed, IsUpTo, handed_so, is_of_input, nothing_handed}
use Rattle.hprof_placed.specs.Handed as listing
use Rattle.hprof_placed.specs.Reading.{ListsPart}
use Rattle.hprof_placed.proofs.Handing.{run_hands}

-- these facts the bytes state so far, and they were handed on
abbrev pub StatesHanded : Limits → List ℕ → Handed → Type 0
StatesHanded limits came handed =
    (header : Option Header) × ((facts : List FactValue) × (handed ≡ handed_so header facts)
    × StatesSoFar limits.max_item (take limits.max_bytes came) header facts)

ran_over : (limits : Limits) (came : List ℕ) (handed : Handed)
    → (header : Option Header) × RanOver {S = Handed} listing.begins listing.steps limits.max_item (take limits.max_bytes came) [] None
    header nothing_handed handed
    → StatesHanded limits came handed
ran_over limits came handed it = (it.0, (it.1.handed, run_hands it.0 it.1.handed handed it.1.ran, it.1.states))

up_to : {longest : ℕ} {bytes : List ℕ} {told : Option Header} (whole : BeginsWhole longest bytes told) (fault : SinkFault)
    (handed : Handed)
    → RefusesLast {S = Handed} listing.begins listing.steps listing.refuses listing.failed whole [] None nothing_handed fault handed
    → IsUpTo whole handed
up_to whole fault handed last =
    let before = run_hands (header_before whole.before) last.ran.handed last.mid last.ran.ran in
    let refused = last.refused.0 in
    record {
      has_header = ap (λ (h : Handed). h.header) refused ∙ ap (λ (h : Handed). h.header) before;
      has_facts = ap (λ (h : Handed). h.facts) refused ∙ ap (λ (h : Handed). h.facts) before ∙ sym last.ran.has_facts;
      has_refused = ap (λ (h : Handed). h.refused) refused;
    }

module _ {R : Type 0} (left : R → Option (List ℕ)) (health : R → Health) (pulls : R → ℕ) (limits : Limits) (was is : R) (came : List ℕ)
  where
    pub handed_whole : (summary : PartSummary) (handed : Handed) → ListsPart left health pulls limits was came is (Ok summary) handed
        → (facts : List FactValue) × (handed ≡ handed_so (Some summary.header) facts)
        × IsPart came summary.header.ids summary.header.millis facts
    handed_whole summary handed reads =
        let stated = reads.6 in (stated.0, run_hands (Some summary.header) stated.0 handed stated.2, stated.1)

    pub handed_before : (fault : PartFault) (handed : Handed) → ListsPart left health pulls limits was came is (Err fault) handed
        → is_of_input fault ≡ true → StatesHanded limits came handed
    handed_before (faults.Malformed at reason) handed reads of_input = ran_over limits came handed reads.1
    handed_before (faults.ItemTooLong at) handed reads of_input = ran_over limits came handed reads.1
    handed_before faults.OutOfMemory handed reads of_input = absurd cc
    handed_before (faults.Sink fault) handed reads of_input = absurd cc
    handed_before faults.Failed handed reads of_input = absurd cc
    handed_before faults.Read handed reads of_input = ran_over limits came handed reads.1
    handed_before faults.ReadsExceeded handed reads of_input = ran_over limits came handed reads.1
    handed_before faults.BytesExceeded handed reads of_input = ran_over limits came handed reads.1

    pub handed_up_to : (fault : SinkFault) (handed : Handed)
        → (reads : ListsPart left health pulls limits was came is (Err (faults.Sink fault)) handed) → IsUpTo reads.0.1.whole handed
    handed_up_to fault handed reads = up_to reads.0.1.whole fault handed reads.1
