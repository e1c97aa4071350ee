-- A report of whatever was made up is one of fewer of these.
use Rattle.std.proofs.Common.{ℕ, List, Option, Result, Ok, Err, inl, inr}
use Rattle.hprof_devices.specs.declared.health.Health.{Health}
use Rattle.hprof_items.specs.FactValue.{FactValue}
use Rattle.hprof_passes.specs.declared.pass_fault.PassFault.{PassFault}
use Rattle.hprof_passes.specs.declared.pass_fault.PassFault.TheVariants.{Sink, Lost}
use Rattle.hprof_engine.specs.declared.product.ProductFault.{ProductFault}
use Rattle.hprof_engine.specs.declared.product.ProductFault.TheVariants as stops
use Rattle.hprof_lines.specs.Passed.{EndsPassed}

module _ {W F : Type 0} (MakeUp Fewer : List FactValue → Type 0) (agree : Type 0) (tells : F → Type 0)
    (IsText : List FactValue → List ℕ → Type 0) (written : W → Option (List ℕ)) (well : W → Health) (old new : W)
    (fewer : (all : List FactValue) → Fewer all → MakeUp all) where
  pub passed_fewer : (r : Result (Unit {0}) (PassFault ProductFault F)) → EndsPassed MakeUp agree tells IsText written well old new r
      → EndsPassed Fewer agree tells IsText written well old new r
  passed_fewer (Ok done) ends = (ends.0, λ all make. ends.1 all (fewer all make), ends.2)
  passed_fewer (Err (Lost fault)) ends = ends
  passed_fewer (Err (Sink stops.OutOfMemory)) ends = elim ends [
    | inl unchanged ↦ inl unchanged
    | inr wrote ↦ inr (wrote.0, λ all make. wrote.1 all (fewer all make), wrote.2)
  ]
  passed_fewer (Err (Sink (stops.Write fault))) ends = (ends.0, λ all make. ends.1 all (fewer all make), ends.2)
  passed_fewer (Err (Sink (stops.Refused refusal))) ends = ends
