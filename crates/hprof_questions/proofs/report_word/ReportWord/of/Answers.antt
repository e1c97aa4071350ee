use Rattle.std.proofs.Common.{◌≢◌, rules}
use Rattle.hprof_questions.specs.Words.{word_of}
use Rattle.hprof_questions.proofs.WordLists.{of_all_words, one_more_word}
use Rattle.hprof_questions.proofs.report_word.ReportWord.of.Goals as goal

pub returns : goal.returns
returns c = of_all_words
    (λ report. c.args.word.now ≢ word_of report) c.loop-report.report-index c.loop-report-test.false c.loop-report.invariant

pub loop-report-preserved : goal.loop-report-preserved
loop-report-preserved c = one_more_word (λ report. c.args.word.now ≢ word_of report) c.loop-report.report-index c.loop-report-test.true
    c.loop-report.invariant (search rules)
