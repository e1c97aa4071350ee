-- Files as parts.
use Rattle.std.specs.Prelude.{ℕ, List, map, Option, None}
use Rattle.hprof_parts.specs.declared.files.OpenFiles.{OpenFiles}

-- the files
abbrev pub files_of : {F : Type 0} → OpenFiles F → List F
files_of it = it.files.now

-- none of them tells its bytes
abbrev pub untold_bytes : {F : Type 0} → OpenFiles F → List (Option (List ℕ))
untold_bytes it = map (λ file. None) it.files.now
