use Rattle.std.specs.List.Sorted.{IsSorted}
use Rattle.std.proofs.Common.{sym, subst, arith}
use Rattle.hprof_edges.specs.contracts.edge.EdgeOrd.TheImpl as edge_ord
use Rattle.hprof_graph.proofs.MovedBehind.{tail_is}
use Rattle.hprof_graph.proofs.behind.sort_from.Goals as goal

pub returns-clause-sorted : goal.returns-clause-sorted
returns-clause-sorted c =
    let len = c.args.edges.now.ok.0 in
    let within = c.requires in
    subst (IsSorted (edge_ord.ghosts).cmp)
    (sym (tail_is c.args.start c.args.edges.now.len c.deref_mut.result.now c.args.edges.now.items c.sort_unstable.new.self
    c.deref_mut.ensures.value (omega (arith, len)) (omega (arith, within)) c.sort_unstable.ensures.len)) c.sort_unstable.ensures.sorted
