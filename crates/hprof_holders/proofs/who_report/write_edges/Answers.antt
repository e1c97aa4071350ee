use Rattle.std.specs.Prelude.{IfOk}
use Rattle.std.proofs.Common.{◌≡◌, ◌∷◌, ap, subst}
use Rattle.std.specs.List.{AllByRecursion, flat_map}
use Rattle.std.specs.String.{string_bytes}
use Rattle.std.proofs.lemmas.Result.{err_from_is_err_and}
use Rattle.hprof_devices.proofs.Writes.{Pushed-more}
use Rattle.hprof_heap.specs.HeapFacts.{facts_of, size_of}
use Rattle.hprof_edges.specs.declared.edge.Edge.{Edge}
use Rattle.hprof_edges.specs.Edges.{IsEdge}
use Rattle.hprof_lines.proofs.TextWriting.{pushed_stops, pushed_stops_within}
use Rattle.hprof_holders.specs.WhoText.{edge_line}
use Rattle.hprof_holders.proofs.WhoWords.{told_name, told_weak}
use Rattle.hprof_holders.proofs.who_report.write_edges.Goals as goal

-- memory was wanted for a step
pub returns-in_err-step-clause-bytes : goal.returns-in_err-step-clause-bytes
returns-in_err-step-clause-bytes g c = λ found names are are_names all.
    let r = c.from_residual in
    let p = err_from_is_err_and r.result r.ensures.1 in
    let text = flat_map (edge_line found names) in
    pushed_stops r.result p.0 p.1 (g.W.Target.written c.args.target.now) (g.W.Target.written c.loop-edge.target)
    (text c.args.edges.now) (text c.loop-edge.rest.now) (c.loop-edge.invariant.pushed found names are are_names all)

pub returns-in_err-write_line-clause-bytes : goal.returns-in_err-write_line-clause-bytes
returns-in_err-write_line-clause-bytes g c = λ found names are are_names all.
    let r = c.from_residual-in_err-write_line in
    let p = err_from_is_err_and r.result r.ensures.1 in
    let text = flat_map (edge_line found names) in
    let edge = c.in-Some.edge.now in
    let after = c.in-Some.after.now in
    let step = c.in_ok-step.step in
    let same = c.in_ok-step.ensures.edge in
    let left = subst (AllByRecursion (IsEdge (size_of c.args.view.heap.now) (facts_of c.args.view.heap.now))) c.in-Some.ensures.cases.0
    (c.loop-edge.invariant.edges all) in
    let told = c.in_ok-step.ensures.found names c.loop-edge.invariant.skips are_names left.0 in
    let line = subst (λ (e : Edge). IfOk c.edge_line.result (λ l. string_bytes l ≡ edge_line found names e)) same
    (c.edge_line.ensures found names are (told_name names step.edge edge same step.name told.0)
    (told_weak names step.edge edge same step.is_weak told.1)) in
    pushed_stops_within r.result p.0 p.1 (g.W.Target.written c.args.target.now) (g.W.Target.written c.loop-edge.target)
    (text c.args.edges.now) (text c.loop-edge.rest.now) (c.loop-edge.invariant.pushed found names are are_names all)
    (g.W.Target.written c.write_line.new.target) (edge_line found names edge) (text after) (ap text c.in-Some.ensures.cases.0)
    (c.in_err-write_line.ensures.bytes (edge_line found names edge) line)

pub loop-edge-preserved : goal.loop-edge-preserved
loop-edge-preserved g c =
    let edge = c.in-Some.edge.now in
    let after = c.in-Some.after.now in
    let step = c.in_ok-step.step in
    let same = c.in_ok-step.ensures.edge in
    let are_edges = AllByRecursion (IsEdge (size_of c.args.view.heap.now) (facts_of c.args.view.heap.now)) in
    let left : are_edges c.args.edges.now → are_edges (edge ∷ after) =
    λ all. subst are_edges c.in-Some.ensures.cases.0 (c.loop-edge.invariant.edges all) in
    record {
      pushed = λ found names are are_names all.
          let text = flat_map (edge_line found names) in
          let told = c.in_ok-step.ensures.found names c.loop-edge.invariant.skips are_names (left all).0 in
          let line = subst (λ (e : Edge). IfOk c.edge_line.result (λ l. string_bytes l ≡ edge_line found names e)) same
          (c.edge_line.ensures found names are (told_name names step.edge edge same step.name told.0)
          (told_weak names step.edge edge same step.is_weak told.1)) in
          Pushed-more (g.W.Target.written c.args.target.now) (g.W.Target.written c.loop-edge.target)
          (g.W.Target.written c.write_line.new.target) (text c.args.edges.now) (text c.loop-edge.rest.now) (edge_line found names edge)
          (text after) (c.loop-edge.invariant.pushed found names are are_names all) (ap text c.in-Some.ensures.cases.0)
          (c.in_ok-write_line.ensures.bytes (edge_line found names edge) line);
      edges = λ all. (left all).1;
      skips = c.in_ok-step.ensures.skips c.loop-edge.invariant.skips;
      well = c.in_ok-write_line.ensures.health;
    }
