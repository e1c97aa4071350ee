use Rattle.std.proofs.Common.{◌+◌, drop, get_or}
use Rattle.std.proofs.lemmas.Result.{err_from_is_err_and}
use Rattle.hprof_devices.proofs.Writes.{Pushed-more}
use Rattle.hprof_lines.proofs.TextWriting.{pushed_stops_within}
use Rattle.hprof_keeps.proofs.Told.{next_line, node_line, nodes_text}
use Rattle.hprof_keeps.proofs.nodes.write_nodes.Goals as goal

pub returns-in_err-write_line-clause-bytes : goal.returns-in_err-write_line-clause-bytes
returns-in_err-write_line-clause-bytes g c = λ found is.
    let retained = c.args.retained.now in
    let front = c.args.front.now in
    let places = c.args.places.now in
    let index = c.loop-place.place-index in
    let line = node_line found retained front (get_or places index 0) in
    let r = c.from_residual in
    let p = err_from_is_err_and r.result r.ensures.1 in
    pushed_stops_within r.result p.0 p.1 (g.W.Target.written c.args.target.now) (g.W.Target.written c.loop-place.target)
    (nodes_text found retained front places) (nodes_text found retained front (drop index places)) (c.loop-place.invariant.pushed found is)
    (g.W.Target.written c.write_line.new.target) line (nodes_text found retained front (drop (index + 1) places))
    (next_line found retained front places index c.loop-place-test.true)
    (c.in_err-write_line.ensures.bytes line (c.place_line.ensures found is))

pub loop-place-preserved : goal.loop-place-preserved
loop-place-preserved g c = record {
  pushed = λ found is.
      let retained = c.args.retained.now in
      let front = c.args.front.now in
      let places = c.args.places.now in
      let index = c.loop-place.place-index in
      let line = node_line found retained front (get_or places index 0) in
      Pushed-more (g.W.Target.written c.args.target.now) (g.W.Target.written c.loop-place.target)
      (g.W.Target.written c.write_line.new.target) (nodes_text found retained front places)
      (nodes_text found retained front (drop index places)) line (nodes_text found retained front (drop (index + 1) places))
      (c.loop-place.invariant.pushed found is) (next_line found retained front places index c.loop-place-test.true)
      (c.in_ok-write_line.ensures.bytes line (c.place_line.ensures found is));
  well = c.in_ok-write_line.ensures.health;
}
