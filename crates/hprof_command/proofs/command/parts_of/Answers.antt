use Rattle.std.proofs.Common.{◌∙◌, ◌++◌, [], ap, unwrap_or, refl, map}
use Rattle.clap.specs.Words.{found_of}
use Rattle.std.specs.Prelude.{codes}
use Rattle.clap.proofs.WalkLemmas.{raw_values-rows}
use Rattle.hprof_command.proofs.CommandLine.{texts_or_none}
use Rattle.hprof_command.proofs.command.parts_of.Goals as goal

pub returns : goal.returns
returns c = ap (map (λ part. part.now)) (c.in_ok-extend_from_slice.ensures.items
    ∙ ap (λ before. before ++ c.unwrap_or.result.now) c.new-parts.ensures.items)
    ∙ texts_or_none c.get_strs.result c.unwrap_or.result _ c.unwrap_or.ensures refl
    ∙ ap (λ texts. unwrap_or texts []) (c.get_strs.ensures ∙ raw_values-rows (found_of c.args.words.now) (codes "part"))
