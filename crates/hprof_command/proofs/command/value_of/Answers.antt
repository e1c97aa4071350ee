use Rattle.std.proofs.Common.{◌∙◌, [], ap, unwrap_or, refl}
use Rattle.clap.specs.Words.{found_of}
use Rattle.clap.proofs.WalkLemmas.{first_value-rows}
use Rattle.hprof_command.proofs.CommandLine.{text_or_none}
use Rattle.hprof_command.proofs.command.value_of.Goals as goal

pub returns : goal.returns
returns c = text_or_none c.get_str.result c.unwrap_or.result _ c.unwrap_or.ensures refl
    ∙ ap (λ text. unwrap_or text []) (c.get_str.ensures ∙ first_value-rows (found_of c.args.words.now) c.args.argument.now)
