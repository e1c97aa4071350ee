-- Loops over the commands.
use Rattle.std.proofs.Common.{◌≤◌, ℕ, take, length, subst}
use Rattle.std.specs.List.{AllByRecursion}
use Rattle.std.proofs.lemmas.List.{take_all}
use Rattle.hprof_questions.specs.declared.report.HeapReport.TheVariants as heaps
use Rattle.hprof_questions.specs.declared.report.KindReport.TheVariants as kinds
use Rattle.hprof_questions.specs.declared.report.NodeReport.TheVariants as nodes
use Rattle.hprof_questions.specs.declared.report_word.ReportWord.TheVariants as words
use Rattle.hprof_command.specs.declared.command.NewFile.TheVariants as files
use Rattle.hprof_command.specs.declared.command.subcommands.CommandWord.{CommandWord}
use Rattle.hprof_command.specs.declared.command.subcommands.CommandWord.TheVariants as commands
use Rattle.hprof_command.specs.CommandLine.{all_commands}

module _ (P : CommandWord → Type 0) where
  -- what holds of all that stand in the list holds of each
  of_each : AllByRecursion P all_commands → (command : CommandWord) → P command
  of_each all (commands.Write files.Dump) = all.0
  of_each all (commands.Write files.Dump101) = all.1.0
  of_each all commands.Salvage = all.1.1.0
  of_each all (commands.Report (words.Heap heaps.Check)) = all.1.1.1.0
  of_each all (commands.Report (words.Heap heaps.Histogram)) = all.1.1.1.1.0
  of_each all (commands.Report (words.Heap heaps.Classes)) = all.1.1.1.1.1.0
  of_each all (commands.Report (words.Heap heaps.Threads)) = all.1.1.1.1.1.1.0
  of_each all (commands.Report (words.Heap heaps.Suspects)) = all.1.1.1.1.1.1.1.0
  of_each all (commands.Report (words.Heap heaps.Retained)) = all.1.1.1.1.1.1.1.1.0
  of_each all (commands.Report (words.Kind kinds.Biggest)) = all.1.1.1.1.1.1.1.1.1.0
  of_each all (commands.Report (words.Kind kinds.Objects)) = all.1.1.1.1.1.1.1.1.1.1.0
  of_each all commands.Compare = all.1.1.1.1.1.1.1.1.1.1.1.0
  of_each all (commands.Report (words.Node nodes.Show)) = all.1.1.1.1.1.1.1.1.1.1.1.1.0
  of_each all (commands.Report (words.Node nodes.Why)) = all.1.1.1.1.1.1.1.1.1.1.1.1.1.0
  of_each all (commands.Report (words.Node nodes.Who)) = all.1.1.1.1.1.1.1.1.1.1.1.1.1.1.0
  of_each all (commands.Report (words.Node nodes.Keeps)) = all.1.1.1.1.1.1.1.1.1.1.1.1.1.1.1.0
  of_each all (commands.Report (words.Node nodes.Text)) = all.1.1.1.1.1.1.1.1.1.1.1.1.1.1.1.1.0
  of_each all (commands.Report (words.Node nodes.Object)) = all.1.1.1.1.1.1.1.1.1.1.1.1.1.1.1.1.1.0
  of_each all (commands.Report (words.Node nodes.Refs)) = all.1.1.1.1.1.1.1.1.1.1.1.1.1.1.1.1.1.1.0
  of_each all (commands.Report (words.Node nodes.Path)) = all.1.1.1.1.1.1.1.1.1.1.1.1.1.1.1.1.1.1.1.0
  of_each all commands.Ask = all.1.1.1.1.1.1.1.1.1.1.1.1.1.1.1.1.1.1.1.1.0

  -- so does what holds of those that a loop has gone over, at its end
  pub of_all_commands : (place : ℕ) → length all_commands ≤ place → AllByRecursion P (take place all_commands) → (command : CommandWord)
      → P command
  of_all_commands place end all = of_each (subst (AllByRecursion P) (take_all place all_commands end) all)
