-- What is written to a new file.
use Rattle.std.specs.Prelude.{ℕ, List}
use Rattle.hprof_stream.specs.declared.summary.PartSummary.{PartSummary}
use Rattle.hprof_rows.specs.HeapValue.{HeapValue}
use Rattle.hprof_engine.specs.Joining101.{IsDump101Text}
use Rattle.hprof_engine.specs.Makes.{IsDumpText}
use Rattle.hprof_command.specs.declared.command.NewFile.{NewFile}
use Rattle.hprof_command.specs.declared.command.NewFile.TheVariants as files

-- the canonical dump, or the 1.0.1 dump
abbrev pub is_new_file : NewFile → List PartSummary → HeapValue → List ℕ → Type 0
is_new_file files.Dump = IsDumpText
is_new_file files.Dump101 = IsDump101Text
