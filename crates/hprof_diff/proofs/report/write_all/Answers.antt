use Rattle.std.proofs.Common.{◌+◌, map, drop, get_or, subst, ◌∙◌}
use Rattle.std.specs.Io.KnownBytes.{Appends}
use Rattle.std.proofs.lemmas.Result.{err_from_is_err_and}
use Rattle.hprof_devices.proofs.Writes.{Pushed-more, WritesFront}
use Rattle.hprof_lines.proofs.TextWriting.{pushed_stops, pushed_stops_within}
use Rattle.hprof_diff.specs.Changes.{change_value}
use Rattle.hprof_diff.specs.DifferenceText.{change_line, changes_text}
use Rattle.hprof_diff.proofs.NextChange.{next_change, no_change}
use Rattle.hprof_diff.proofs.report.write_all.Goals as goal

pub returns-in_err-set_line-clause-bytes : goal.returns-in_err-set_line-clause-bytes
returns-in_err-set_line-clause-bytes g c =
    let p = err_from_is_err_and c.from_residual.result c.from_residual.ensures.1 in
    pushed_stops c.from_residual.result p.0 p.1 (g.W.Target.written c.args.target.now) (g.W.Target.written c.loop-change.target)
    (changes_text (map change_value c.args.changes.now))
    (changes_text (map change_value (drop c.loop-change.change-index c.args.changes.now)))
    c.loop-change.invariant.pushed

pub returns-in_err-write_str-clause-bytes : goal.returns-in_err-write_str-clause-bytes
returns-in_err-write_str-clause-bytes g c =
    let all = c.args.changes.now in
    let place = c.loop-change.change-index in
    let r = c.from_residual-in_err-write_str.result in
    let p = err_from_is_err_and r c.from_residual-in_err-write_str.ensures.1 in
    let line = change_line (change_value (get_or all place no_change)) in
    pushed_stops_within r p.0 p.1 (g.W.Target.written c.args.target.now) (g.W.Target.written c.loop-change.target)
    (changes_text (map change_value all)) (changes_text (map change_value (drop place all))) c.loop-change.invariant.pushed
    (g.W.Target.written c.write_str.new.target) line (changes_text (map change_value (drop (place + 1) all)))
    (next_change all place c.loop-change-test.true)
    (subst (WritesFront (g.W.Target.written c.loop-change.target) (g.W.Target.written c.write_str.new.target))
    (c.deref.ensures ∙ c.in_ok-set_line.ensures) c.in_err-write_str.ensures.bytes)

pub loop-change-preserved : goal.loop-change-preserved
loop-change-preserved g c =
    let all = c.args.changes.now in
    let place = c.loop-change.change-index in
    let line = change_line (change_value (get_or all place no_change)) in
    record {
      pushed = Pushed-more (g.W.Target.written c.args.target.now) (g.W.Target.written c.loop-change.target)
          (g.W.Target.written c.write_str.new.target) (changes_text (map change_value all))
          (changes_text (map change_value (drop place all)))
          line (changes_text (map change_value (drop (place + 1) all))) c.loop-change.invariant.pushed
          (next_change all place c.loop-change-test.true)
          (subst (Appends (g.W.Target.written c.loop-change.target) (g.W.Target.written c.write_str.new.target))
          (c.deref.ensures ∙ c.in_ok-set_line.ensures) c.in_ok-write_str.ensures.bytes);
      well = c.in_ok-write_str.ensures.health;
    }
