-- The summaries of parts that a report keeps: `check` keeps all, and the others none.
use Rattle.std.proofs.Common.{◌≡◌, ◌+◌, ℕ, List, arith}
use Rattle.std.specs.Prelude.{⊤, Vec, vec_len, vec_capacity}
use Rattle.std.specs.declared.alloc.Global.{Global}
use Rattle.hprof_stream.specs.declared.summary.PartSummary.{PartSummary}
use Rattle.hprof_questions.specs.declared.report.HeapReport.TheVariants as heaps
use Rattle.hprof_questions.specs.declared.report.Report.{Report}
use Rattle.hprof_questions.specs.declared.report.Report.TheVariants as reports
use Rattle.hprof_ask.specs.Report.{TakesRoom}

abbrev pub HasRoom : Report → Vec PartSummary Global → ℕ → Type 0
HasRoom (reports.Heap heaps.Check) kept more = vec_len kept + more ≡ vec_capacity kept
HasRoom other kept more = ⊤

abbrev pub Holds : Report → Vec PartSummary Global → List PartSummary → Type 0
Holds (reports.Heap heaps.Check) kept summaries = kept.items ≡ summaries
Holds other kept summaries = ⊤

pub no_room_for_none : (report : Report) → TakesRoom report 0 → ⊥
no_room_for_none (reports.Heap heaps.Check) takes = omega (arith, takes)
no_room_for_none other takes = takes
