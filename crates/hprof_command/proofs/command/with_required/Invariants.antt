use Rattle.std.proofs.Common.{◌≡◌, map, take}
use Rattle.clap.specs.Words.{app_of}
use Rattle.hprof_command.specs.CommandLine.{required_rule, with_rules}
use Rattle.hprof_command.proofs.command.with_required.Given as goal

-- the arguments so far were added
abbrev pub invariant-loop-argument : goal.invariant-loop-argument
invariant-loop-argument l = app_of l.command
    ≡ with_rules (app_of l.initial.command) (map (λ argument. required_rule argument.name.now) (take l.argument-index l.arguments))
