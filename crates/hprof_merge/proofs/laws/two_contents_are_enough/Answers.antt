use Rattle.hprof_merge.proofs.Unions.{enough_union, enough_least}
use Rattle.hprof_merge.proofs.laws.two_contents_are_enough.Goals as goal

pub returns-clause-union : goal.returns-clause-union
returns-clause-union c = λ lists others all enough. enough_union lists others enough all

pub returns-clause-contents : goal.returns-clause-contents
returns-clause-contents c = λ lists others key enough. enough_least lists others enough key
