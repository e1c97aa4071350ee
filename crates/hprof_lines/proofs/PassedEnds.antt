-- How the writing of a report ends that is made of a pass over objects.
use Rattle.std.proofs.Common.{◌≡◌, ℕ, List, [], Option, Result, Ok, Err, inl, inr, sym, subst, arith}
use Rattle.std.specs.declared.convert.Infallible.{Infallible}
use Rattle.std.specs.Io.KnownBytes.{Appends}
use Rattle.std.proofs.KnownBytes.{Appends-nil}
use Rattle.hprof_devices.specs.declared.health.Health.{Health}
use Rattle.hprof_items.specs.FactValue.{FactValue}
use Rattle.hprof_passes.specs.declared.pass_fault.PassFault.{PassFault}
use Rattle.hprof_passes.specs.declared.pass_fault.PassFault.TheVariants.{Sink}
use Rattle.hprof_engine.specs.declared.product.ProductFault.{ProductFault}
use Rattle.hprof_engine.specs.declared.product.ProductFault.TheVariants as stops
use Rattle.hprof_lines.specs.Passed.{EndsPassed}
use Rattle.hprof_lines.specs.Stopping.{LeavesTarget, WritesText}

-- the answer of writing as that of the report
abbrev pub as_passed : {A F : Type 0} → Result A ProductFault → Result A (PassFault ProductFault F)
as_passed (Ok done) = Ok done
as_passed (Err stop) = Err (Sink stop)

module _ {W F : Type 0} (MakeUp : List FactValue → Type 0) (agree : Type 0) (tells : F → Type 0) (IsText : List FactValue → List ℕ → Type 0)
    (written : W → Option (List ℕ)) (well : W → Health) (old new : W) where
  pub ends_passed : (r : Result (Unit {0}) ProductFault) → agree
      → ((all : List FactValue) → MakeUp all → (text : List ℕ) × IsText all text × WritesText (written old) (written new) r text)
      → LeavesTarget r (well new) → EndsPassed MakeUp agree tells IsText written well old new (as_passed r)
  ends_passed (Ok done) agreed texts health = (agreed, texts, health)
  ends_passed (Err (stops.Write fault)) agreed texts health = (
    agreed,
    λ all make. let text = texts all make in (text.0, text.2.0, text.2.1, text.1, text.2.2),
    health,
  )
  ends_passed (Err stops.OutOfMemory) agreed texts health = inr (
    agreed,
    λ all make. let text = texts all make in (text.0, text.2.0, text.2.1, text.1, text.2.2),
    health,
  )
  ends_passed (Err (stops.Refused refusal)) agreed texts health = absurd health

module _ {W : Type 0} (MakeUp : List FactValue → Type 0) (agree : Type 0) (tells : Infallible → Type 0)
    (IsText : List FactValue → List ℕ → Type 0) (written : W → Option (List ℕ)) (well : W → Health) (old new : W) (facts : List FactValue)
    (make : MakeUp facts) (some : (text : List ℕ) × IsText facts text) where
  stops_in_memory : (kept : ProductFault) → EndsPassed MakeUp agree tells IsText written well old new {A = Unit {0}} (Err (Sink kept))
      → (text : List ℕ) × IsText facts text × WritesText {A = Unit {0}} (written old) (written new) (Err kept) text
  stops_in_memory (stops.Write fault) ends =
      let front = ends.1 facts make in (front.0, front.3, (front.1, front.2, front.4))
  stops_in_memory stops.OutOfMemory ends = elim ends [
    | inl same ↦ (
      some.0,
      some.1,
      (
        0,
        omega arith,
        subst (λ (w : W). Appends (written old) (written w) []) (sym same)
            (Appends-nil (written old)),
      ),
    )
    | inr wrote ↦ let front = wrote.1 facts make in (front.0, front.3, (front.1, front.2, front.4))
  ]
  stops_in_memory (stops.Refused refusal) ends = absurd ends

  -- a report on objects in memory stops as its writing does
  pub in_memory : (stop : PassFault ProductFault Infallible) (kept : ProductFault) → stop ≡ Sink kept
      → EndsPassed MakeUp agree tells IsText written well old new {A = Unit {0}} (Err stop)
      → (text : List ℕ) × IsText facts text × WritesText {A = Unit {0}} (written old) (written new) (Err kept) text
  in_memory stop kept is ends = stops_in_memory kept
      (subst (λ (s : PassFault ProductFault Infallible). EndsPassed MakeUp agree tells IsText written well old new {A = Unit {0}} (Err s))
      is ends)
