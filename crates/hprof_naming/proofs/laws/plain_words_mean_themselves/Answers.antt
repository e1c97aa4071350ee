use Rattle.hprof_naming.proofs.Meanings.{plain_word}
use Rattle.hprof_naming.proofs.laws.plain_words_mean_themselves.Goals as goal

pub returns : goal.returns
returns c = plain_word
