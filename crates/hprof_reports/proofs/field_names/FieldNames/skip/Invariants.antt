use Rattle.std.proofs.Common.{ℕ}
use Rattle.std.specs.List.{AllByRecursion}
use Rattle.hprof_heap.specs.HeapFacts.{facts_of}
use Rattle.hprof_reports.specs.Skipped.{AreSkips, HasSameLayout}
use Rattle.hprof_reports.proofs.field_names.FieldNames.skip.Given as goal

abbrev pub invariant-loop-passed : goal.invariant-loop-passed
invariant-loop-passed l = AreSkips (facts_of l.heap) l.self
    → HasSameLayout (facts_of l.heap) l.fn.class l.at
    × AllByRecursion (λ (class : ℕ). HasSameLayout (facts_of l.heap) class l.at) l.passed.items
