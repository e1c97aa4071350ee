-- A part that is read again states the facts that a sink was handed.
use Rattle.std.proofs.Common.{◌≡◌, ℕ, List, ◌++◌, Option, Some, Result, Ok, Err, ap}
use Rattle.std.specs.Io.KnownBytes.{Consumes}
use Rattle.hprof_devices.specs.declared.health.Health.{Health}
use Rattle.hprof_items.specs.FactValue.{FactValue}
use Rattle.hprof_stream.specs.declared.part_fault.PartFault.{PartFault}
use Rattle.hprof_stream.specs.declared.summary.PartSummary.{PartSummary}
use Rattle.hprof_facts.specs.FactReader.{EndsFrom, Origin}
use Rattle.hprof_facts.specs.OfBytes.{IsOfBytes, RunBefore}
use Rattle.hprof_facts.proofs.Agreeing.{agree}
use Rattle.hprof_placed.specs.Handed.{Handed, nothing_handed}
use Rattle.hprof_placed.specs.Handed as listing
use Rattle.hprof_placed.specs.Reading.{ListsPart}
use Rattle.hprof_placed.proofs.Handing.{run_hands}

-- a list that ran over facts has these
ran_before : (result : Result PartSummary PartFault) (facts : List FactValue) (handed : Handed)
    → RunBefore {S = Handed} listing.begins listing.steps result nothing_handed facts handed → handed.facts ≡ facts
ran_before (Ok summary) facts handed run = ap (λ (h : Handed). h.facts) (run_hands (Some summary.header) facts handed run)
ran_before (Err fault) facts handed run = ap (λ (h : Handed). h.facts) (run_hands run.0 facts handed run.1)

module _ {R : Type 0} (left : R → Option (List ℕ)) (health : R → Health) (pulls : R → ℕ)
    {Q : Type 0} (left_too : Q → Option (List ℕ)) (health_too : Q → Health) (pulls_too : Q → ℕ) where
  pub again : (origin : Origin) (rest : List ℕ) (was is : R) (result : Result PartSummary PartFault) (given : List FactValue)
      (pushed behind : Q) (came : List ℕ) (other : Result PartSummary PartFault) (handed : Handed)
      → left was ≡ Some rest → left_too pushed ≡ Some (origin.front ++ rest)
      → EndsFrom left health pulls origin was is result given → Consumes (left_too pushed) (left_too behind) came
      → ListsPart left_too health_too pulls_too origin.limits pushed came behind other handed → IsOfBytes result → IsOfBytes other
      → (result ≡ other) × (handed.facts ≡ origin.told ++ given)
  again origin rest was is result given pushed behind came other handed tells tells_too ends gave reads of_bytes of_bytes_too =
      let both = agree left health pulls left_too health_too pulls_too {S = Handed} listing.begins listing.steps listing.refuses
      listing.failed origin rest was is result given pushed behind came other nothing_handed handed tells tells_too ends gave reads of_bytes
      of_bytes_too in
      (both.0, ran_before other (origin.told ++ given) handed both.1)
