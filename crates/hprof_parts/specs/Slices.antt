-- Slices as parts.
use Rattle.std.specs.Prelude.{ℕ, List, map, Option, Some}
use Rattle.hprof_parts.specs.declared.slices.Slices.{Slices}

-- each tells its bytes
abbrev pub bytes_of_slices : Slices → List (Option (List ℕ))
bytes_of_slices it = map (λ slice. Some slice.now) it.slices.now
