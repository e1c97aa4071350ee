-- The numbers of what nodes lead to.
use Rattle.std.specs.Prelude.{◌≡◌, ◌↔◌, ◌<◌, ℕ, List, Option, Some, length, slice_index}
use Rattle.std.specs.Option.{option_or}
use Rattle.hprof_numbers.specs.Lists.{IsListed, count_in}
use Rattle.hprof_numbers.specs.Places.{number_in}
use Rattle.hprof_numbers.specs.declared.lists.Lists.{Lists}

-- the number of a node; of what is no node the other one, if there is one
abbrev pub number_or : List ℕ → Option ℕ → ℕ → Option ℕ
number_or nodes other target = option_or (number_in nodes target) other

-- the number is that of a target
abbrev pub IsNumberOf : List ℕ → Option ℕ → (ℕ → Type 0) → ℕ → Type 0
IsNumberOf nodes other IsTarget number = (target : ℕ) × IsTarget target × (number_or nodes other target ≡ Some number)

-- the list of each node has the numbers of what it leads to, and no others
pub record AreNumberedEdges (Leads : ℕ → ℕ → Type 0) (nodes : List ℕ) (other : Option ℕ) (lists : Lists) : Type 0 where
  pub as_many : count_in lists ≡ length nodes
  pub exact : (from number : ℕ) → from < length nodes
      → IsListed lists from number ↔ IsNumberOf nodes other (Leads (slice_index nodes from)) number
