-- What is kept of each node, by its number, which is its place among all nodes.
use Rattle.std.specs.Prelude.{◌<◌, ◌≡◌, ℕ, Bool, false, List, get_or, length, nat_eq, slice_index}
use Rattle.std.specs.List.{list_any}
use Rattle.std.specs.List.Sorted.{IsStrictlyIncreasing}

-- each number was found from one that is there
abbrev pub LeadsBack : List ℕ → Type 0
LeadsBack before = (number : ℕ) → number < length before → slice_index before number < length before

-- the numbers in the order are those that were found
abbrev pub OrdersFound : List Bool → List ℕ → Type 0
OrdersFound found order = (number : ℕ) → list_any (nat_eq number) order ≡ get_or found number false

-- the nodes ascend, of each it is kept whether it was found, and from which; and those that were found stand in an order
pub record IsKept (nodes : List ℕ) (found : List Bool) (before order : List ℕ) : Type 0 where
  pub ascend : IsStrictlyIncreasing nodes
  pub as_many : length found ≡ length nodes
  pub paired : length before ≡ length nodes
  pub back : LeadsBack before
  pub ordered : OrdersFound found order
