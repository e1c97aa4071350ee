-- Lists of numbers that take few bytes.
use Rattle.std.specs.Prelude.{ℕ, ◌^◌, List}
use Rattle.hprof_numbers.specs.declared.numbers.Numbers.{Numbers}
use Rattle.hprof_numbers.specs.declared.numbers.Numbers.TheVariants.{Narrow, Wide}

-- the numbers that are there
abbrev pub items_in : Numbers → List ℕ
items_in (Narrow items) = items.items
items_in (Wide items) = items.items

-- each number that can be put there is below it
abbrev pub bound_of : Numbers → ℕ
bound_of (Narrow items) = 2 ^ 32
bound_of (Wide items) = 2 ^ 64
