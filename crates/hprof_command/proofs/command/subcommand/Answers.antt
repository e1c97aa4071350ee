use Rattle.std.proofs.Common.{◌∙◌, ◌≡◌, [], ◌∷◌, rules, ap}
use Rattle.std.proofs.lemmas.Result.{IfOk-weaker}
use Rattle.clap.specs.Words.{App, app_of, new_app}
use Rattle.hprof_command.specs.CommandLine.{memory_rule, parts_rule, rules_if, with_rules}
use Rattle.hprof_command.proofs.CommandLine.{required_rules, shape_of_these}
use Rattle.hprof_command.proofs.command.subcommand.Goals as goal

pub returns : goal.returns
returns c =
    let row = c.args.row.now in
    let start : app_of c.after_help-command.result ≡ new_app row.word.now = search rules in
    let with_these : App → App = λ app. with_rules
    (with_rules (with_rules app (required_rules row.arguments.now)) (rules_if row.takes_parts parts_rule))
    (memory_rule ∷ []) in
    let parts = c.in_ok-command-2.ensures
    ∙ ap (λ (app : App). with_rules app (rules_if row.takes_parts parts_rule)) c.in_ok-command.ensures in
    IfOk-weaker c.with_memory.result _ _ (λ command added. ap (λ (app : App). app.top) (added
    ∙ ap (λ (app : App). with_rules app (memory_rule ∷ [])) parts ∙ ap with_these start) ∙ shape_of_these row)
    c.with_memory.ensures
