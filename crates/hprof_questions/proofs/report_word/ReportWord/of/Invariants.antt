use Rattle.std.proofs.Common.{◌≢◌, take}
use Rattle.std.specs.List.{AllByRecursion}
use Rattle.hprof_questions.specs.Words.{all_words, word_of}
use Rattle.hprof_questions.proofs.report_word.ReportWord.of.Given as goal

abbrev pub invariant-loop-report : goal.invariant-loop-report
invariant-loop-report l = AllByRecursion (λ report. l.word ≢ word_of report) (take l.report-index all_words)
