-- Lists of numbers, one behind the other.
use Rattle.std.specs.Prelude.{◌≡◌, ◌<◌, ◌≤◌, ℕ, length, slice_index}
use Rattle.hprof_numbers.specs.Ends.{start_at}
use Rattle.hprof_numbers.specs.Numbers.{bound_of, items_in}
use Rattle.hprof_numbers.specs.declared.lists.Lists.{Lists}

-- how many lists there are
abbrev pub count_in : Lists → ℕ
count_in lists = length (items_in lists.ends)

-- each number that can be listed is below it
abbrev pub bound_in : Lists → ℕ
bound_in lists = bound_of lists.items

-- where the list of a number begins
abbrev pub start_in : Lists → ℕ → ℕ
start_in lists number = start_at (items_in lists.ends) number

-- where it ends
abbrev pub end_in : Lists → ℕ → ℕ
end_in lists number = slice_index (items_in lists.ends) number

-- the one stands in the list of the other
abbrev pub IsListed : Lists → ℕ → ℕ → Type 0
IsListed lists number one =
    (place : ℕ) × (start_in lists number ≤ place) × (place < end_in lists number) × (slice_index (items_in lists.items) place ≡ one)

-- all that is listed is below a bound
abbrev pub AreListedBelow : Lists → ℕ → Type 0
AreListedBelow lists bound = (number one : ℕ) → IsListed lists number one → one < bound

-- all that is listed has a list
abbrev pub LeadsWithin : Lists → Type 0
LeadsWithin lists = AreListedBelow lists (count_in lists)
