use Rattle.hprof_edges.specs.LeftOut.{fields_in}
use Rattle.hprof_heap.specs.HeapFacts.{facts_of, size_of}
use Rattle.hprof_retained.proofs.KeptFound.{strong_found}
use Rattle.hprof_retained.proofs.cached_references.strong_over.Goals as goal

pub returns : goal.returns
returns g c =
    let ids = size_of c.args.heap.now in
    let facts = facts_of c.args.heap.now in
    let objects = c.args.objects.now in
    strong_found (g.O.Objects.make_up objects ids facts) (g.O.Objects.agree objects ids facts) (g.O.Objects.tells objects ids facts) ids
    (fields_in c.in-Ok.weak) c.in-Ok.ensures.weak c.reach_over.result c.reach_over.ensures
