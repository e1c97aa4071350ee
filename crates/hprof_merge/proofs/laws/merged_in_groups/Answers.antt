use Rattle.std.proofs.Common.{◌∷◌, ◌++◌}
use Rattle.hprof_merge.proofs.Unions.{grouped, turned, union_same, least_same}
use Rattle.hprof_merge.proofs.laws.merged_in_groups.Goals as goal

pub returns-clause-union : goal.returns-clause-union
returns-clause-union c = λ lists rest one all union.
    let same = grouped lists rest one union in (
      union_same (one ∷ rest) (lists ++ rest) same all,
      union_same (lists ++ rest) (one ∷ rest)
          (turned (one ∷ rest) (lists ++ rest) same) all,
    )

pub returns-clause-contents : goal.returns-clause-contents
returns-clause-contents c = λ lists rest one key union.
    let same = grouped lists rest one union in (
      least_same (one ∷ rest) (lists ++ rest) same key,
      least_same (lists ++ rest) (one ∷ rest)
          (turned (one ∷ rest) (lists ++ rest) same) key,
    )
