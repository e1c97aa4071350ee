use Rattle.std.proofs.Common.{ℕ, List, length, ap}
use Rattle.std.proofs.lemmas.List.{nil_from_length}
use Rattle.std.proofs.lemmas.Result.{err_from_is_err_and}
use Rattle.hprof_devices.proofs.Writes.{Pushed-all, Pushed-more, Pushed-none}
use Rattle.hprof_lines.proofs.TextWriting.{pushed_stops_within}
use Rattle.hprof_meaning.specs.NamedText.{class_line, class_lines}
use Rattle.hprof_meaning.proofs.named.write_classes.Goals as goal

pub loop-class-init : goal.loop-class-init
loop-class-init g c = record {
  pushed = λ found is. Pushed-none (g.W.Target.written c.args.target.now) (class_lines found c.args.classes.now);
  well = c.requires.well;
}

pub loop-class-preserved : goal.loop-class-preserved
loop-class-preserved g c = record {
  pushed = λ found is.
      let line = class_line found c.in-Some.class.now in
      Pushed-more (g.W.Target.written c.args.target.now) (g.W.Target.written c.loop-class.target)
      (g.W.Target.written c.write_line.new.target)
      (class_lines found c.args.classes.now) (class_lines found c.loop-class.rest.now) line (class_lines found c.in-Some.after.now)
      (c.loop-class.invariant.pushed found is) (ap (class_lines found) c.in-Some.ensures.cases.0)
      (c.in_ok-write_line.ensures.bytes line (c.class_line.ensures found is));
  well = c.in_ok-write_line.ensures.health;
}

pub returns-in_err-write_line-clause-bytes : goal.returns-in_err-write_line-clause-bytes
returns-in_err-write_line-clause-bytes g c = λ found is.
    let r = c.from_residual.result in
    let p = err_from_is_err_and r c.from_residual.ensures.1 in
    let line = class_line found c.in-Some.class.now in
    pushed_stops_within r p.0 p.1 (g.W.Target.written c.args.target.now) (g.W.Target.written c.loop-class.target)
    (class_lines found c.args.classes.now) (class_lines found c.loop-class.rest.now) (c.loop-class.invariant.pushed found is)
    (g.W.Target.written c.write_line.new.target) line (class_lines found c.in-Some.after.now)
    (ap (class_lines found) c.in-Some.ensures.cases.0) (c.in_err-write_line.ensures.bytes line (c.class_line.ensures found is))

pub returns-clause-bytes : goal.returns-clause-bytes
returns-clause-bytes g c = λ found is.
    Pushed-all (g.W.Target.written c.args.target.now) (g.W.Target.written c.loop-class.target) (class_lines found c.args.classes.now)
    (class_lines found c.loop-class.rest.now) (c.loop-class.invariant.pushed found is)
    (ap (λ (l : List ℕ). length (class_lines found l)) (nil_from_length c.loop-class.rest.now c.in_default.ensures.cases))
