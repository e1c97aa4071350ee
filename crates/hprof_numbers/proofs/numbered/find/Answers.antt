use Rattle.std.proofs.Common.{◌∙◌}
use Rattle.hprof_numbers.proofs.Placed.{by_halves}
use Rattle.hprof_numbers.proofs.numbered.find.Goals as goal

pub returns : goal.returns
returns c =
    c.ok.ensures.value ∙ by_halves c.args.nodes.now c.args.node c.requires c.binary_search.result c.binary_search.ensures.position
