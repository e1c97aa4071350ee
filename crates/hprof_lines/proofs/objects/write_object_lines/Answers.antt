use Rattle.std.proofs.Common.{ap, ◌∙◌}
use Rattle.std.proofs.lemmas.Result.{err_from_is_err_and}
use Rattle.hprof_devices.proofs.Writes.{Pushed-more}
use Rattle.hprof_lines.proofs.TextWriting.{pushed_stops, pushed_stops_within}
use Rattle.hprof_lines.specs.ObjectsText.{object_line, objects_text}
use Rattle.hprof_lines.proofs.PrintedPieces.{appended_is, front_is}
use Rattle.hprof_lines.proofs.objects.write_object_lines.Goals as goal

pub returns-in_err-set_line-clause-bytes : goal.returns-in_err-set_line-clause-bytes
returns-in_err-set_line-clause-bytes g c =
    let p = err_from_is_err_and c.from_residual.result c.from_residual.ensures.1 in
    pushed_stops c.from_residual.result p.0 p.1 (g.W.Target.written c.args.target.now) (g.W.Target.written c.loop-object.target)
    (objects_text c.args.objects.now) (objects_text c.loop-object.rest.now) c.loop-object.invariant.pushed

pub returns-in_err-write_str-clause-bytes : goal.returns-in_err-write_str-clause-bytes
returns-in_err-write_str-clause-bytes g c =
    let r = c.from_residual-in_err-write_str.result in
    let p = err_from_is_err_and r c.from_residual-in_err-write_str.ensures.1 in
    let line = object_line c.in-Some.object.now in
    pushed_stops_within r p.0 p.1 (g.W.Target.written c.args.target.now) (g.W.Target.written c.loop-object.target)
    (objects_text c.args.objects.now) (objects_text c.loop-object.rest.now) c.loop-object.invariant.pushed
    (g.W.Target.written c.write_str.new.target) line (objects_text c.in-Some.after.now) (ap objects_text c.in-Some.ensures.cases.0)
    (front_is (g.W.Target.written c.loop-object.target) (g.W.Target.written c.write_str.new.target) c.deref.result.now line
    (c.deref.ensures ∙ c.in_ok-set_line.ensures) c.in_err-write_str.ensures.bytes)

pub loop-object-preserved : goal.loop-object-preserved
loop-object-preserved g c =
    let line = object_line c.in-Some.object.now in
    record {
      pushed = Pushed-more (g.W.Target.written c.args.target.now) (g.W.Target.written c.loop-object.target)
          (g.W.Target.written c.write_str.new.target)
          (objects_text c.args.objects.now) (objects_text c.loop-object.rest.now) line (objects_text c.in-Some.after.now)
          c.loop-object.invariant.pushed (ap objects_text c.in-Some.ensures.cases.0)
          (appended_is (g.W.Target.written c.loop-object.target) (g.W.Target.written c.write_str.new.target) c.deref.result.now line
          (c.deref.ensures ∙ c.in_ok-set_line.ensures) c.in_ok-write_str.ensures.bytes);
      well = c.in_ok-write_str.ensures.health;
    }
