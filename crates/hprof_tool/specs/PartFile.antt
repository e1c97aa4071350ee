-- The file of a part.
use Rattle.std.specs.Prelude.{ℕ, List, Option, None}
use Rattle.hprof_tool.specs.declared.program.part_file.PartFile.{PartFile}
use Rattle.hprof_tool.specs.declared.program.part_file.PartFile.TheVariants.{Stream, Regular}

-- the bytes that are still to be read, where they are told: a file that is read at offsets does not tell
abbrev pub remaining_in : {F : Type 0} → (F → Option (List ℕ)) → PartFile F → Option (List ℕ)
remaining_in remaining (Stream file) = remaining file
remaining_in remaining (Regular file at) = None
