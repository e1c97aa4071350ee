use Rattle.hprof_heap.specs.Heap.{heap_of}
use Rattle.hprof_heap.specs.HeapFacts.{facts_of, size_of}
use Rattle.hprof_histogram.specs.Known.{MadeUpWith}
use Rattle.hprof_making.proofs.Passed.{ends_over}
use Rattle.hprof_making.specs.Over.{heap_with}
use Rattle.hprof_diff.specs.DifferenceText.{IsGrowthReport, IsGrowthText}
use Rattle.hprof_diff.specs.Kept.{totals_in}
use Rattle.hprof_diff.proofs.parts.GrowthReportPassProduct.write_over.Goals as goal

pub returns : goal.returns
unfolding facts_of size_of
returns g c = λ summaries holds.
    let ids = size_of c.args.heap.now in
    let facts = facts_of c.args.heap.now in
    let objects = c.args.objects.now in
    let totals = totals_in c.args.self.now.old.now in
    ends_over (MadeUpWith (g.O.Objects.make_up objects ids facts) ids c.args.known) (g.O.Objects.agree objects ids facts)
    (g.O.Objects.tells objects ids facts) (IsGrowthText totals ids)
    (λ all. IsGrowthReport totals summaries (heap_with (heap_of c.args.heap.now) all)) g.W.Target.written
    g.W.Target.health c.args.target.now c.write_growth_over.new.target (λ all text make is. is) (λ refusal all. ⊥)
    c.write_growth_over.result c.write_growth_over.ensures
