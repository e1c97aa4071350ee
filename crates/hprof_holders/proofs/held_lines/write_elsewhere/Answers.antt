use Rattle.std.proofs.Common.{◌++◌, Some, ap, ◌∙◌}
use Rattle.std.proofs.lemmas.List.{nil_from_length}
use Rattle.std.proofs.lemmas.Result.{err_from_is_err_and}
use Rattle.hprof_devices.proofs.Writes.{Pushed-all, Pushed-more}
use Rattle.hprof_lines.proofs.TextWriting.{pushed_stops_within}
use Rattle.hprof_holders.specs.PlaceLines.{new_place_line}
use Rattle.hprof_holders.specs.ThreadsText.{elsewhere_text, held_line}
use Rattle.hprof_holders.proofs.LeftRows.{left_row, left_text, none_left}
use Rattle.hprof_holders.proofs.held_lines.write_elsewhere.Goals as goal

pub returns-in_err-write_line-clause-bytes : goal.returns-in_err-write_line-clause-bytes
returns-in_err-write_line-clause-bytes g c = λ found are.
    let p = err_from_is_err_and c.from_residual.result c.from_residual.ensures.1 in
    let held = c.in-Some.held.now in
    let after = c.in-Some.after.now in
    let before = c.loop-held.before in
    let line = new_place_line before held.place ++ held_line found held in
    pushed_stops_within c.from_residual.result p.0 p.1 (g.W.Target.written c.args.target.now) (g.W.Target.written c.loop-held.target)
    (elsewhere_text found c.args.rows.now) (left_text found before c.loop-held.rest.now) (c.loop-held.invariant.pushed found are)
    (g.W.Target.written c.write_line.new.target) line (left_text found (Some held.place) after)
    (ap (left_text found before) c.in-Some.ensures.cases.0 ∙ left_row found before held after)
    (c.in_err-write_line.ensures.bytes line (c.row_line.ensures found are))

pub loop-held-preserved : goal.loop-held-preserved
loop-held-preserved g c = record {
  pushed = λ found are.
      let held = c.in-Some.held.now in
      let after = c.in-Some.after.now in
      let before = c.loop-held.before in
      let line = new_place_line before held.place ++ held_line found held in
      Pushed-more (g.W.Target.written c.args.target.now) (g.W.Target.written c.loop-held.target)
      (g.W.Target.written c.write_line.new.target)
      (elsewhere_text found c.args.rows.now) (left_text found before c.loop-held.rest.now) line (left_text found (Some held.place) after)
      (c.loop-held.invariant.pushed found are)
      (ap (left_text found before) c.in-Some.ensures.cases.0 ∙ left_row found before held after)
      (c.in_ok-write_line.ensures.bytes line (c.row_line.ensures found are));
  well = c.in_ok-write_line.ensures.health;
}

pub returns-clause-bytes : goal.returns-clause-bytes
returns-clause-bytes g c = λ found are.
    let rest = c.loop-held.rest.now in
    let none = c.in_default.ensures.cases in
    Pushed-all (g.W.Target.written c.args.target.now) (g.W.Target.written c.loop-held.target) (elsewhere_text found c.args.rows.now)
    (left_text found c.loop-held.before rest) (c.loop-held.invariant.pushed found are)
    (none_left found c.loop-held.before rest (nil_from_length rest none))
