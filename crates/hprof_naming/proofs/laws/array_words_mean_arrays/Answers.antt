use Rattle.hprof_naming.proofs.Meanings.{array_word}
use Rattle.hprof_naming.proofs.laws.array_words_mean_arrays.Goals as goal

pub returns : goal.returns
returns c = array_word
