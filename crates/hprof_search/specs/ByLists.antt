-- Edges that are listed by number.
use Rattle.std.specs.Prelude.{◌≡◌, ◌<◌, ℕ, List, length, slice_index}
use Rattle.hprof_numbers.specs.Lists.{IsListed, LeadsWithin, count_in}
use Rattle.hprof_numbers.specs.declared.lists.Lists.{Lists}

-- there is a list for each of these nodes, and what is listed are numbers of nodes
pub record IsListOf (lists : Lists) (nodes : List ℕ) : Type 0 where
  pub as_many : count_in lists ≡ length nodes
  pub within : LeadsWithin lists

-- the one node has the number of the other in its list
pub record LeadsByList (lists : Lists) (nodes : List ℕ) (from to : ℕ) : Type 0 where
  pub number : ℕ
  pub within : number < length nodes
  pub from_is : slice_index nodes number ≡ from
  pub one : ℕ
  pub listed : IsListed lists number one
  pub to_is : slice_index nodes one ≡ to
