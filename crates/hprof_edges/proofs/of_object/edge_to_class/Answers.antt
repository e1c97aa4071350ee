use Rattle.std.proofs.Common.{◌≡◌, ◌++◌, false, sym, ◌∙◌}
use Rattle.hprof_layouts.specs.References.{is_wanted}
use Rattle.hprof_edges.specs.declared.edge.Edge.{Edge}
use Rattle.hprof_edges.specs.declared.edge.Via.TheVariants as vias
use Rattle.hprof_edges.specs.EdgeLists.{unless_zero}
use Rattle.hprof_edges.proofs.ObjectDumpEdges.{to_class}
use Rattle.hprof_edges.proofs.WantedEdges.{kept_without}
use Rattle.hprof_edges.proofs.of_object.edge_to_class.Goals as goal

pub returns-then-not-wants-clause-holds : goal.returns-then-not-wants-clause-holds
returns-then-not-wants-clause-holds g c =
    let into = c.args.into.now in
    let object = c.args.object in
    let class = c.args.class in
    let edge : Edge = record { from = object; via = vias.Class; position = 0; to = class } in
    let wants : c.wants.result ≡ is_wanted c.wanted.result class = c.wants.ensures in
    let unkept : g.C.Collect.keeps into edge ≡ false = c.wanted.ensures edge (sym wants ∙ c.if-not-wants.true) in
    λ edges held. record {
      more = unless_zero edge;
      holds_more = g.C.Collect.same_kept into edges (edges ++ unless_zero edge)
          (kept_without (g.C.Collect.keeps into) edges edge unkept) held;
      exact = to_class object class;
    }
