use Rattle.std.proofs.Common.{ap}
use Rattle.std.proofs.lemmas.Result.{err_from_is_err_and}
use Rattle.hprof_devices.proofs.Writes.{Pushed-more}
use Rattle.hprof_reports.specs.PathText.{node_line, nodes_text}
use Rattle.hprof_lines.proofs.TextWriting.{pushed_stops_within}
use Rattle.hprof_reports.proofs.path.write_nodes.Goals as goal

pub returns-in_err-write_line-clause-bytes : goal.returns-in_err-write_line-clause-bytes
returns-in_err-write_line-clause-bytes g c =
    let p = err_from_is_err_and c.from_residual.result c.from_residual.ensures.1 in
    let node = c.in-Some.node.now in
    let after = c.in-Some.after.now in
    pushed_stops_within c.from_residual.result p.0 p.1 (g.W.Target.written c.args.target.now) (g.W.Target.written c.loop-node.target)
    (nodes_text c.args.nodes.now) (nodes_text c.loop-node.rest.now) c.loop-node.invariant.pushed
    (g.W.Target.written c.write_line.new.target)
    (node_line node) (nodes_text after) (ap nodes_text c.in-Some.ensures.cases.0)
    (c.in_err-write_line.ensures.bytes (node_line node) c.node_line.ensures)

pub loop-node-preserved : goal.loop-node-preserved
loop-node-preserved g c = record {
  pushed =
      let node = c.in-Some.node.now in
      let after = c.in-Some.after.now in
      Pushed-more (g.W.Target.written c.args.target.now) (g.W.Target.written c.loop-node.target)
      (g.W.Target.written c.write_line.new.target)
      (nodes_text c.args.nodes.now) (nodes_text c.loop-node.rest.now) (node_line node) (nodes_text after) c.loop-node.invariant.pushed
      (ap nodes_text c.in-Some.ensures.cases.0) (c.in_ok-write_line.ensures.bytes (node_line node) c.node_line.ensures);
  well = c.in_ok-write_line.ensures.health;
}
