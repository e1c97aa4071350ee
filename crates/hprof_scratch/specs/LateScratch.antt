-- The file of late scratch.
use Rattle.hprof_scratch.specs.declared.late_file.LateFile.{LateFile}
use Rattle.hprof_scratch.specs.declared.late_scratch.LateScratch.{LateScratch}

abbrev pub late_file : {M F : Type 0} → LateScratch M F → LateFile F
late_file scratch = scratch.file
