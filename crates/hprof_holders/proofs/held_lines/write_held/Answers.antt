use Rattle.std.proofs.Common.{ap}
use Rattle.std.specs.List.{flat_map}
use Rattle.std.proofs.lemmas.Result.{err_from_is_err_and}
use Rattle.hprof_devices.proofs.Writes.{Pushed-more}
use Rattle.hprof_lines.proofs.TextWriting.{pushed_stops_within}
use Rattle.hprof_holders.specs.ThreadsText.{held_line}
use Rattle.hprof_holders.proofs.held_lines.write_held.Goals as goal

pub returns-in_err-write_line-clause-bytes : goal.returns-in_err-write_line-clause-bytes
returns-in_err-write_line-clause-bytes g c = λ found are.
    let p = err_from_is_err_and c.from_residual.result c.from_residual.ensures.1 in
    let held = c.in-Some.held.now in
    let after = c.in-Some.after.now in
    pushed_stops_within c.from_residual.result p.0 p.1 (g.W.Target.written c.args.target.now) (g.W.Target.written c.loop-held.target)
    (flat_map (held_line found) c.args.rows.now) (flat_map (held_line found) c.loop-held.rest.now) (c.loop-held.invariant.pushed found are)
    (g.W.Target.written c.write_line.new.target) (held_line found held) (flat_map (held_line found) after)
    (ap (flat_map (held_line found)) c.in-Some.ensures.cases.0)
    (c.in_err-write_line.ensures.bytes (held_line found held) (c.held_line.ensures found are))

pub loop-held-preserved : goal.loop-held-preserved
loop-held-preserved g c = record {
  pushed = λ found are.
      let held = c.in-Some.held.now in
      let after = c.in-Some.after.now in
      Pushed-more (g.W.Target.written c.args.target.now) (g.W.Target.written c.loop-held.target)
      (g.W.Target.written c.write_line.new.target)
      (flat_map (held_line found) c.args.rows.now) (flat_map (held_line found) c.loop-held.rest.now) (held_line found held)
      (flat_map (held_line found) after) (c.loop-held.invariant.pushed found are)
      (ap (flat_map (held_line found)) c.in-Some.ensures.cases.0)
      (c.in_ok-write_line.ensures.bytes (held_line found held) (c.held_line.ensures found are));
  well = c.in_ok-write_line.ensures.health;
}
