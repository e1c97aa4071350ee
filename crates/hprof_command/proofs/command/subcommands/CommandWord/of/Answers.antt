use Rattle.std.proofs.Common.{◌≢◌}
use Rattle.hprof_command.specs.Commands.{command_word}
use Rattle.hprof_command.proofs.CommandWords.{of_all_commands}
use Rattle.hprof_command.proofs.command.subcommands.CommandWord.of.Goals as goal

pub returns : goal.returns
returns c = of_all_commands (λ command. c.args.word.now ≢ command_word command) c.loop-command.command-index c.loop-command-test.false
    c.loop-command.invariant
