use Rattle.hprof_naming.proofs.SlashedWords.{same_words}
use Rattle.hprof_naming.proofs.laws.dots_count_as_slashes.Goals as goal

pub returns-clause-words : goal.returns-clause-words
returns-clause-words c = same_words
