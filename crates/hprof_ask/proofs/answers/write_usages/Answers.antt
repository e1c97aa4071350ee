use Rattle.std.proofs.lemmas.Result.{err_from_is_err_and}
use Rattle.hprof_questions.specs.declared.report.HeapReport.TheVariants.{Check}
use Rattle.hprof_questions.specs.declared.report_word.ReportWord.TheVariants.{Heap}
use Rattle.hprof_questions.specs.Words.{all_words, usage_line}
use Rattle.hprof_reports.proofs.Slices.{slice_more, slice_all}
use Rattle.hprof_ask.proofs.Usages.{usage_stops}
use Rattle.hprof_ask.proofs.answers.write_usages.Goals as goal

pub returns-in_err-write_usage-clause-bytes : goal.returns-in_err-write_usage-clause-bytes
returns-in_err-write_usage-clause-bytes g c =
    let p = err_from_is_err_and c.from_residual.result c.from_residual.ensures.1 in
    usage_stops c.from_residual.result p.0 (g.W.Target.written c.args.target.now) (g.W.Target.written c.loop-word.target)
    (g.W.Target.written c.write_usage.new.target) c.loop-word.word-index c.loop-word-test.true p.1 c.loop-word.invariant.wrote
    c.in_err-write_usage.ensures.bytes

pub loop-word-preserved : goal.loop-word-preserved
loop-word-preserved g c = record {
  wrote = slice_more usage_line (g.W.Target.written c.args.target.now) (g.W.Target.written c.loop-word.target)
      (g.W.Target.written c.write_usage.new.target) all_words c.loop-word.word-index
      (Heap Check) c.loop-word-test.true c.loop-word.invariant.wrote
      c.in_ok-write_usage.ensures.bytes;
  well = c.in_ok-write_usage.ensures.health;
}

pub returns-clause-bytes : goal.returns-clause-bytes
returns-clause-bytes g c =
    slice_all usage_line (g.W.Target.written c.args.target.now) (g.W.Target.written c.loop-word.target) all_words c.loop-word.word-index
    c.loop-word-test.false c.loop-word.invariant.wrote
