use Rattle.std.proofs.Common.{◌≡◌, drop}
use Rattle.hprof_devices.specs.declared.health.Health.TheVariants.{Well}
use Rattle.hprof_devices.proofs.OneByOne.{Wrote}
use Rattle.hprof_questions.specs.Words.{all_words, usage_line}
use Rattle.hprof_ask.proofs.answers.write_usages.Given as goal

abbrev pub invariant-loop-word : goal.invariant-loop-word
invariant-loop-word g l = record {
  wrote : Wrote usage_line (g.W.Target.written l.fn.target) (g.W.Target.written l.target) all_words (drop l.word-index all_words);
  well : g.W.Target.health l.target ≡ Well;
}
