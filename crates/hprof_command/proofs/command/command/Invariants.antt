use Rattle.std.proofs.Common.{◌≡◌, take}
use Rattle.clap.specs.Words.{app_of}
use Rattle.hprof_command.specs.CommandLine.{all_commands, command_line_with}
use Rattle.hprof_command.proofs.command.command.Given as goal

-- the commands so far were added
abbrev pub invariant-loop-command : goal.invariant-loop-command
invariant-loop-command l = app_of l.program ≡ command_line_with (take l.command-index all_commands)
