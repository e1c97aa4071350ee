-- The reports on the classes that a name means.
use Rattle.std.proofs.Common.{◌≡◌, ℕ, List, [], ◌∷◌, Option, Result, Ok, Err, inl, inr, refl, sym, subst}
use Rattle.hprof_values.specs.declared.ids.IdSize.{IdSize}
use Rattle.hprof_devices.specs.declared.health.Health.{Health}
use Rattle.hprof_items.specs.FactValue.{FactValue}
use Rattle.hprof_passes.specs.declared.pass_fault.PassFault.{PassFault}
use Rattle.hprof_passes.specs.declared.pass_fault.PassFault.TheVariants.{Sink, Lost}
use Rattle.hprof_passes.specs.Passing.{IfLost}
use Rattle.hprof_engine.specs.declared.product.ProductFault.{ProductFault}
use Rattle.hprof_engine.specs.declared.product.ProductFault.TheVariants as stops
use Rattle.hprof_engine.specs.declared.heap_fault.HeapFault.{HeapFault}
use Rattle.hprof_lines.specs.Passed.{EndsPassed, stop_of_pass}
use Rattle.hprof_making.specs.Over.{EndsOver}
use Rattle.hprof_meaning.specs.MeantClasses.{AreMeantClasses}
use Rattle.hprof_questions.specs.declared.report.KindReport.{KindReport}
use Rattle.hprof_ask.specs.Report.{IsNamedKind, IsReportOfClasses, NamesClasses}

-- where a name is not answered, it means no class, and is not the name of the class of all classes
pub none_meant : {P : Type 0} (classes : List ℕ) → ¬ (classes ≡ [] → P) → (classes ≡ []) × ¬ P
none_meant [] not = (refl, λ p. not (λ _. p))
none_meant (class ∷ classes) not = absurd (not (λ e. absurd cc))

-- the report on the classes that a name means is that on the name
pub named_kind : (ids : IdSize) (facts : List FactValue) (report : KindReport) (name classes text : List ℕ)
    → AreMeantClasses facts name classes → (classes ≡ [] → NamesClasses name) → IsReportOfClasses ids facts report name classes text
    → IsNamedKind ids facts report name text
named_kind ids facts report name classes text are there is = record {
  classes = classes;
  are_classes = are;
  there = there;
  is = is;
}

-- a report of which each text is one of another report
module _ {W F : Type 0} (MakeUp : List FactValue → Type 0) (agree : Type 0) (tells : F → Type 0)
    (IsText IsOther : List FactValue → List ℕ → Type 0) (written : W → Option (List ℕ)) (well : W → Health) (old new : W)
    (same : (all : List FactValue) (text : List ℕ) → IsText all text → IsOther all text) where
  pub ends_same : (r : Result (Unit {0}) (PassFault ProductFault F)) → EndsPassed MakeUp agree tells IsText written well old new r
      → EndsPassed MakeUp agree tells IsOther written well old new r
  ends_same (Ok done) ends = (ends.0, λ all make. let it = ends.1 all make in (it.0, same all it.0 it.1, it.2), ends.2)
  ends_same (Err (Lost fault)) ends = ends
  ends_same (Err (Sink stops.OutOfMemory)) ends = elim ends [
    | inl unchanged ↦ inl unchanged
    | inr wrote ↦ inr (
      wrote.0,
      λ all make. let it = wrote.1 all make in (it.0, it.1, it.2, same all it.0 it.3, it.4),
      wrote.2,
    )
  ]
  ends_same (Err (Sink (stops.Write fault))) ends =
      (ends.0, λ all make. let it = ends.1 all make in (it.0, it.1, it.2, same all it.0 it.3, it.4), ends.2)
  ends_same (Err (Sink (stops.Refused refusal))) ends = absurd ends

-- a pass before the first byte stopped, and so does the report
module _ {W F : Type 0} (MakeUp : List FactValue → Type 0) (agree : Type 0) (tells : F → Type 0) (IsText : List FactValue → List ℕ → Type 0)
    (Refuses : HeapFault → List FactValue → Type 0) (written : W → Option (List ℕ)) (well : W → Health) (writer : W) where
  abbrev Stops : PassFault ProductFault F → Type 0
  Stops stop = EndsOver MakeUp agree tells IsText Refuses written well writer writer {A = Unit {0}} (Err stop)

  pub stops_before : {E : Type 0} → (stop : PassFault E F) (told : PassFault ProductFault F) → told ≡ stop_of_pass stop → IfLost tells stop
      → EndsOver MakeUp agree tells IsText Refuses written well writer writer {A = Unit {0}} (Err told)
  stops_before (Sink fault) told is lost = subst Stops (sym is) (inl refl)
  stops_before (Lost fault) told is lost = subst Stops (sym is) (lost, refl)
