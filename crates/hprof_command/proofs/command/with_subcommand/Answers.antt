use Rattle.std.proofs.Common.{◌∙◌, ap}
use Rattle.std.proofs.lemmas.Result.{IfOk-weaker}
use Rattle.clap.specs.Words.{Shape, app_of, with_subcommand}
use Rattle.hprof_command.proofs.CommandLine.{no_globals}
use Rattle.hprof_command.proofs.command.with_subcommand.Goals as goal

pub returns : goal.returns
returns c = IfOk-weaker c.subcommand-2.result _ _ (λ program added.
    added.shape (no_globals _ _ _ _ (ap (λ (shape : Shape). shape.is_plain) c.in_ok-subcommand.ensures))
    ∙ ap (with_subcommand (app_of c.args.program)) c.in_ok-subcommand.ensures) c.subcommand-2.ensures
