use Rattle.hprof_naming.proofs.Pairs.{before_pairs-none, whole_word}
use Rattle.hprof_naming.proofs.laws.all_pairs_count.Goals as goal

pub returns-clause-whole : goal.returns-clause-whole
returns-clause-whole c = whole_word

pub returns-clause-all : goal.returns-clause-all
returns-clause-all c = before_pairs-none
