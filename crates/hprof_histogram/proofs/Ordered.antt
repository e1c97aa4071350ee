-- Lists in order, by values.
use Rattle.std.proofs.Common.{◌+◌, Bool, List, [], ◌∷◌, map, arith}
use Rattle.std.specs.List.Sorted.{IsSortedBy}
use Rattle.std.proofs.lemmas.List.{get_or-map, length-map}

-- what is in order by a test of values is in order as values
pub sorted_map : {X Y : Type 0} (f : X → Y) (lt : Y → Y → Bool) (xs : List X) → IsSortedBy (λ x y. lt (f x) (f y)) xs
    → IsSortedBy lt (map f xs)
sorted_map f lt [] sorted k d low high = absurd (omega (arith, high))
sorted_map f lt (x ∷ xs) sorted k d low high =
    let all = x ∷ xs in
    let same = length-map all f in
    let here = get_or-map f all k x d (omega (arith, high, same)) in
    let next = get_or-map f all (k + 1) x d (omega (arith, high, same)) in
    rw (here, next) (sorted k x low (omega (arith, high, same)))
