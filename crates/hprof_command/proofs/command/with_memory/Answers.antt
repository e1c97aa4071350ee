use Rattle.std.proofs.Common.{◌∙◌, ap}
use Rattle.std.proofs.lemmas.Result.{IfOk-weaker}
use Rattle.clap.specs.Words.{app_of, with_rule}
use Rattle.hprof_command.proofs.command.with_memory.Goals as goal

pub returns : goal.returns
returns c = IfOk-weaker c.arg.result _ _ (λ command added. added.shape c.memory_arg.ensures.local
    ∙ ap (with_rule (app_of c.args.command)) c.memory_arg.ensures.rule) c.arg.ensures
