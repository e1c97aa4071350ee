use Rattle.hprof_merge.proofs.Unions.{turned, union_same, least_same}
use Rattle.hprof_merge.proofs.laws.the_same_rows.Goals as goal

pub returns-clause-union : goal.returns-clause-union
returns-clause-union c = λ lists others all same.
    (union_same lists others same all, union_same others lists (turned lists others same) all)

pub returns-clause-contents : goal.returns-clause-contents
returns-clause-contents c = λ lists others key same.
    (least_same lists others same key, least_same others lists (turned lists others same) key)
