-- What reading a sub-record answers.
use Rattle.std.specs.Prelude.{◌≡◌, ℕ, ◌≤◌, List, ◌++◌, length, drop}
use Rattle.hprof_values.specs.declared.ids.IdSize.{IdSize}
use Rattle.hprof_values.specs.FieldGroups.{Bounds}
use Rattle.hprof_items.specs.declared.fact.Fact.{Fact}
use Rattle.hprof_items.specs.FactValue.{value_of, ListsHave}
use Rattle.hprof_items.specs.SubRecord.{dump_bytes}
use Rattle.hprof_items.specs.Spelling.{Fits}

-- the bounds of a sub-record where its record has so many bytes left
abbrev pub bounds_within : (room longest : ℕ) → List ℕ → Bounds
bounds_within room longest bytes = record { room = room; longest = longest; there = length bytes }

-- at the front stands what spells the fact, which has a spelling, and ends there, within the record and the longest item
pub record IsSubRead (ids : IdSize) (room longest : ℕ) (bytes : List ℕ) (fact : Fact) (n : ℕ) : Type 0 where
  pub fits : Fits ids (value_of fact)
  pub lists : ListsHave ids fact
  pub spelled : bytes ≡ dump_bytes ids (value_of fact) ++ drop n bytes
  pub ends : n ≡ length (dump_bytes ids (value_of fact))
  pub within_room : n ≤ room
  pub within_longest : n ≤ longest
