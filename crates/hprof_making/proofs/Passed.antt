-- A report that is made of passes, as a product of them.
use Rattle.std.proofs.Common.{ℕ, List, Option, Result, Ok, Err, inl, inr}
use Rattle.hprof_devices.specs.declared.health.Health.{Health}
use Rattle.hprof_items.specs.FactValue.{FactValue}
use Rattle.hprof_passes.specs.declared.pass_fault.PassFault.{PassFault}
use Rattle.hprof_passes.specs.declared.pass_fault.PassFault.TheVariants.{Sink, Lost}
use Rattle.hprof_engine.specs.declared.product.ProductFault.{ProductFault}
use Rattle.hprof_engine.specs.declared.product.ProductFault.TheVariants as stops
use Rattle.hprof_engine.specs.declared.heap_fault.HeapFault.{HeapFault}
use Rattle.hprof_lines.specs.Passed.{EndsPassed}
use Rattle.hprof_making.specs.Over.{EndsOver}

module _ {W F : Type 0} (MakeUp : List FactValue → Type 0) (agree : Type 0) (tells : F → Type 0)
    (IsText IsOther : List FactValue → List ℕ → Type 0) (written : W → Option (List ℕ)) (well : W → Health) (old new : W)
    (same : (all : List FactValue) (text : List ℕ) → MakeUp all → IsText all text → IsOther all text) where
  -- a report that refuses nothing: each of its texts is one of the product
  pub ends_over : (Refuses : HeapFault → List FactValue → Type 0) (r : Result (Unit {0}) (PassFault ProductFault F))
      → EndsPassed MakeUp agree tells IsText written well old new r
      → EndsOver MakeUp agree tells IsOther Refuses written well old new r
  ends_over Refuses (Ok done) ends =
      (ends.0, λ all make. let it = ends.1 all make in (it.0, same all it.0 make it.1, it.2), ends.2)
  ends_over Refuses (Err (Lost fault)) ends = ends
  ends_over Refuses (Err (Sink stops.OutOfMemory)) ends = elim ends [
    | inl unchanged ↦ inl unchanged
    | inr wrote ↦ inr (
      wrote.0,
      λ all make. let it = wrote.1 all make in (it.0, it.1, it.2, same all it.0 make it.3, it.4),
      wrote.2,
    )
  ]
  ends_over Refuses (Err (Sink (stops.Write fault))) ends =
      (ends.0, λ all make. let it = ends.1 all make in (it.0, it.1, it.2, same all it.0 make it.3, it.4), ends.2)
  ends_over Refuses (Err (Sink (stops.Refused refusal))) ends = absurd ends

-- a product that was written of whatever was made up was written of fewer of these
module _ {W F : Type 0} (MakeUp Fewer : List FactValue → Type 0) (agree : Type 0) (tells : F → Type 0)
    (IsText : List FactValue → List ℕ → Type 0) (Refuses : HeapFault → List FactValue → Type 0) (written : W → Option (List ℕ))
    (well : W → Health) (old new : W) (fewer : (all : List FactValue) → Fewer all → MakeUp all) where
  pub ends_fewer : (r : Result (Unit {0}) (PassFault ProductFault F)) → EndsOver MakeUp agree tells IsText Refuses written well old new r
      → EndsOver Fewer agree tells IsText Refuses written well old new r
  ends_fewer (Ok done) ends = (ends.0, λ all make. ends.1 all (fewer all make), ends.2)
  ends_fewer (Err (Lost fault)) ends = ends
  ends_fewer (Err (Sink stops.OutOfMemory)) ends = elim ends [
    | inl unchanged ↦ inl unchanged
    | inr wrote ↦ inr (wrote.0, λ all make. wrote.1 all (fewer all make), wrote.2)
  ]
  ends_fewer (Err (Sink (stops.Write fault))) ends = (ends.0, λ all make. ends.1 all (fewer all make), ends.2)
  ends_fewer (Err (Sink (stops.Refused refusal))) ends = (ends.0, λ all make. ends.1 all (fewer all make), ends.2)
