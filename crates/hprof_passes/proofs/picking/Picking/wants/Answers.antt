use Rattle.std.proofs.Common.{◌∙◌, sym, ap}
use Rattle.hprof_passes.specs.Picked.{is_one_of}
use Rattle.hprof_passes.specs.Picking.{wanted_by}
use Rattle.hprof_passes.proofs.Halves.{by_halves}
use Rattle.hprof_passes.proofs.picking.Picking.wants.Goals as goal

pub returns-in-Some : goal.returns-in-Some
returns-in-Some g c =
    let wanted = wanted_by c.args.self.now in
    c.is_ok.ensures.value
    ∙ by_halves wanted c.in-Some.id c.binary_search.result c.args.self.now.ascends c.binary_search.ensures.position
    ∙ ap (is_one_of wanted) (sym c.in-Some.is ∙ c.object_id.ensures)
