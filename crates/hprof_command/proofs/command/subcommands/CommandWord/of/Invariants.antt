use Rattle.std.proofs.Common.{◌≢◌, take}
use Rattle.std.specs.List.{AllByRecursion}
use Rattle.hprof_command.specs.Commands.{command_word}
use Rattle.hprof_command.specs.CommandLine.{all_commands}
use Rattle.hprof_command.proofs.command.subcommands.CommandWord.of.Given as goal

abbrev pub invariant-loop-command : goal.invariant-loop-command
invariant-loop-command l = AllByRecursion (λ command. l.word ≢ command_word command) (take l.command-index all_commands)
