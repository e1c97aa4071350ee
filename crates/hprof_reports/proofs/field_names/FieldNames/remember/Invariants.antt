use Rattle.std.proofs.Common.{ℕ, length}
use Rattle.std.specs.List.{AllByRecursion}
use Rattle.hprof_heap.specs.HeapFacts.{facts_of}
use Rattle.hprof_reports.specs.Skipped.{AreSkips, HasSameLayout}
use Rattle.hprof_reports.proofs.field_names.FieldNames.remember.Given as goal

abbrev pub invariant-loop-class : goal.invariant-loop-class
invariant-loop-class l = AllByRecursion (λ (class : ℕ). HasSameLayout (facts_of l.heap) class l.above) l.passed
    → AreSkips (facts_of l.heap) l.fn.self
    → AreSkips (facts_of l.heap) l.self × AllByRecursion (λ (class : ℕ). HasSameLayout (facts_of l.heap) class l.above) l.rest

abbrev pub decreases-loop-class : goal.decreases-loop-class
decreases-loop-class l = length l.rest
