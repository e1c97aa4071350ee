use Rattle.std.proofs.Common.{subst, sym}
use Rattle.hprof_heap.specs.HeapFacts.{facts_of, size_of}
use Rattle.hprof_ask.specs.OfName.{biggest_of_name}
use Rattle.hprof_ask.specs.Report.{IsReportOfClasses}
use Rattle.hprof_questions.specs.declared.report.KindReport.{KindReport}
use Rattle.hprof_ask.proofs.answerer.Answerer.write_of_classes.Goals as goal

-- class dumps are chosen exactly if the name is that of the class of all classes
pub returns-in-Biggest-clause-bytes : goal.returns-in-Biggest-clause-bytes
returns-in-Biggest-clause-bytes g c =
    let ids = size_of c.args.self.now.heap.now in
    let facts = facts_of c.args.self.now.heap.now in
    let it = c.write_biggest.ensures.bytes in (
      it.0,
      subst (λ (r : KindReport). IsReportOfClasses ids facts r c.args.name.now c.args.classes.now it.0) (sym c.in-Biggest.is)
          (biggest_of_name ids facts c.args.name.now c.args.classes.now c.names_classes-with_class_dumps.result
          c.names_classes-with_class_dumps.ensures it.0 it.1),
      it.2,
    )
