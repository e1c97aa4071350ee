-- What waits, by the class that it waits for.
use Rattle.std.specs.Prelude.{ℕ, ◌==◌, List, [], if◌then◌else◌, length, sum_by}
use Rattle.std.specs.Option.{option_map_or}
use Rattle.std.specs.Ordering.{nat_cmp}
use Rattle.std.specs.BTreeMap.{get, values}
use Rattle.hprof_layouts.specs.declared.waiting_lists.WaitingLists.{WaitingLists}

-- a function with another value at a place
abbrev pub put : {X : Type 0} → (ℕ → X) → ℕ → X → ℕ → X
put f place value at = if place == at then value else f at

module _ {T : Type 0} where
  -- what waits for the class
  abbrev pub waiting_for : WaitingLists T → ℕ → List T
  waiting_for waiting class = option_map_or (λ list. list.items) (get nat_cmp waiting.lists class) []

  -- the number of items that wait
  abbrev pub number_in : WaitingLists T → ℕ
  number_in waiting = sum_by (λ list. length list.items) (values waiting.lists)
