-- Identifiers, and the bytes that stand for numbers.
use Rattle.std.specs.Prelude.{ℕ, ◌<◌, ◌^◌, List, slice_index}
use Rattle.hprof_values.specs.declared.ids.IdSize.{IdSize}
use Rattle.hprof_values.specs.declared.ids.IdSize.TheVariants.{Four, Eight}

-- how many bytes an identifier has
abbrev pub width_of : IdSize → ℕ
width_of Four = 4
width_of Eight = 8

-- a number that an identifier of that width can be
abbrev pub IsId : IdSize → ℕ → Type 0
IsId ids id = id < 256 ^ width_of ids

-- each number of the list is a byte
abbrev pub IsBytes : List ℕ → Type 0
IsBytes bytes = (i : ℕ) → slice_index bytes i < 256
