use Rattle.std.proofs.Common.{◌∙◌, ap₂}
use Rattle.clap.specs.Words.{with_subcommand}
use Rattle.hprof_command.specs.CommandLine.{all_commands, command_line, shape_of_command}
use Rattle.hprof_command.proofs.CommandLine.{command_more}
use Rattle.hprof_command.proofs.command.command.Goals as goal

pub loop-command-preserved : goal.loop-command-preserved
loop-command-preserved c = c.in_ok-program.ensures ∙ ap₂ with_subcommand c.loop-command.invariant c.row.ensures.shape
    ∙ command_more command_line shape_of_command all_commands c.loop-command.command-index _ c.loop-command-test.true
