-- Stacks, as a heap keeps them.
use Rattle.std.specs.Prelude.{◌≡◌, ◌≤◌, ◌%◌, ℕ, List, drop, length}
use Rattle.hprof_values.specs.declared.ids.IdSize.{IdSize}
use Rattle.hprof_values.specs.Ids.{width_of}

-- the bytes are the serial of a thread with the identifiers of frames behind it, of which none is cut
abbrev pub IsTrace : IdSize → List ℕ → Type 0
IsTrace ids bytes = (4 ≤ length bytes) × (length (drop 4 bytes) % width_of ids ≡ 0)
