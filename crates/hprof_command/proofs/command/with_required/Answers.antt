use Rattle.std.proofs.Common.{◌∙◌, ap₂}
use Rattle.clap.specs.Words.{with_rule}
use Rattle.hprof_command.specs.CommandLine.{required_rule}
use Rattle.hprof_command.specs.declared.command.subcommands.Argument.{Argument}
use Rattle.hprof_command.proofs.CommandLine.{rule_more}
use Rattle.hprof_command.proofs.command.with_required.Goals as goal

pub loop-argument-preserved : goal.loop-argument-preserved
loop-argument-preserved c = c.in_ok-command.ensures.shape c.required_arg.ensures.local
    ∙ ap₂ with_rule c.loop-argument.invariant c.required_arg.ensures.rule
    ∙ rule_more _ (λ (argument : Argument). required_rule argument.name.now) c.args.arguments.now c.loop-argument.argument-index _
    c.loop-argument-test.true
