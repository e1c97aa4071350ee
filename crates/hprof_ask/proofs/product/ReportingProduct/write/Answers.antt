use Rattle.hprof_heap.specs.Heap.{heap_of}
use Rattle.hprof_heap.specs.HeapFacts.{facts_of, size_of}
use Rattle.hprof_ask.specs.Report.{IsReport, IsReportText, RefusesReport, TakesMemory}
use Rattle.hprof_ask.proofs.Ends.{ends_as, of_kept}
use Rattle.hprof_ask.proofs.product.ReportingProduct.write.Goals as goal

pub returns : goal.returns
unfolding facts_of size_of
returns g c = λ summaries holds.
    let report = c.args.self.now.report in
    let heap = heap_of c.args.heap.now in
    let held = c.deref.result.now in
    ends_as g.W.Target.written g.W.Target.health (IsReport held heap.ids heap.facts report) (IsReportText report summaries heap)
    (RefusesReport heap.facts report) (TakesMemory report) c.args.target.now c.write.new.target c.write.result
    (λ text is. of_kept report c.args.kept.now held summaries heap.ids heap.facts text c.deref.ensures.value holds is) c.write.ensures.ends
