use Rattle.std.proofs.lemmas.List.Sorted.{Contains-permutation, IsPermutation-sym}
use Rattle.hprof_edges.proofs.left_out.LeftOut.new.Goals as goal

pub returns : goal.returns
returns c =
    let moved = c.sort_unstable.ensures.permutation in
    λ field. (
      λ has. Contains-permutation _ _ field (IsPermutation-sym _ _ moved) has,
      λ has. Contains-permutation _ _ field moved has,
    )
