use Rattle.hprof_values.specs.Lists.{identifiers_of}
use Rattle.hprof_edges.specs.declared.edge.Via.TheVariants as vias
use Rattle.std.proofs.Common.{◌++◌}
use Rattle.hprof_edges.specs.EdgeLists.{numbered}
use Rattle.hprof_edges.proofs.WantedEdges.{kept_alone}
use Rattle.hprof_edges.proofs.putting.put_elements.Goals as goal

pub returns-then-not-wants_one-clause-holds : goal.returns-then-not-wants_one-clause-holds
returns-then-not-wants_one-clause-holds g c =
    let into = c.args.into.now in
    let array = c.args.array in
    let targets = identifiers_of c.args.elements in
    let none = c.wants_one.ensures c.if-not-wants_one.true in
    λ edges held. g.C.Collect.same_kept into edges (edges ++ numbered array vias.Element 0 targets)
    (kept_alone (g.C.Collect.keeps into) c.wanted.result c.wanted.ensures array edges vias.Element targets none) held
