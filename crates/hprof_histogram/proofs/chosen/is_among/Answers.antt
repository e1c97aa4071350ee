use Rattle.std.proofs.Common.{◌∙◌}
use Rattle.hprof_histogram.proofs.Halves.{by_halves}
use Rattle.hprof_histogram.proofs.chosen.is_among.Goals as goal

pub returns : goal.returns
returns c =
    c.is_ok.ensures.value ∙ by_halves c.args.classes.now c.args.class c.binary_search.result c.requires c.binary_search.ensures.position
