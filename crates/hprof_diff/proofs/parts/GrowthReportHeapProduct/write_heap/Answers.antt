use Rattle.hprof_diff.specs.Kept.{totals_in}
use Rattle.hprof_lines.proofs.TextWriting.{report_ends}
use Rattle.hprof_diff.specs.DifferenceText.{IsGrowthText}
use Rattle.hprof_diff.proofs.parts.GrowthReportHeapProduct.write_heap.Goals as goal

pub returns : goal.returns
returns g c =
    report_ends g.W.Target.written g.W.Target.health (IsGrowthText (totals_in c.args.self.now.old.now)) c.args.heap.now
    c.args.target.now c.write_growth.new.target c.write_growth.result c.write_growth.ensures.bytes c.write_growth.ensures.health
