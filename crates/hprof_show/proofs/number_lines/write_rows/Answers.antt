use Rattle.std.proofs.Common.{◌≡◌, ℕ, ◌+◌, ◌-◌, ◌*◌, ◌/◌, arith, subst, sym}
use Rattle.std.specs.List.{flat_map, range_with_len}
use Rattle.std.proofs.lemmas.Result.{err_from_is_err_and}
use Rattle.hprof_devices.proofs.Writes.{Pushed, Pushed-more, Pushed-none}
use Rattle.hprof_lines.proofs.TextWriting.{pushed_stops_within}
use Rattle.hprof_show.specs.NumberLines.{row_line, rows_text}
use Rattle.hprof_show.proofs.Rows.{first_place}
use Rattle.hprof_show.proofs.number_lines.write_rows.Goals as goal

pub loop-row-init : goal.loop-row-init
loop-row-init g c = record {
  pushed = λ found is.
      let line = λ (row : ℕ). row_line found c.args.elem c.args.bytes.now c.args.count (row * 16) in
      let old = g.W.Target.written c.args.target.now in
      let all = rows_text found c.args.elem c.args.bytes.now c.args.count in
      let whole : (c.args.count + 15) / 16 - 0 ≡ (c.args.count + 15) / 16 = omega arith in
      subst (λ (n : ℕ). Pushed old old all (flat_map line (range_with_len 0 n))) (sym whole) (Pushed-none old all);
  well = c.requires.well;
}

pub returns-in_err-write_line-clause-bytes : goal.returns-in_err-write_line-clause-bytes
returns-in_err-write_line-clause-bytes g c = λ found is.
    let line = λ (row : ℕ). row_line found c.args.elem c.args.bytes.now c.args.count (row * 16) in
    let end = (c.args.count + 15) / 16 in
    let row = c.loop-row.row in
    let r = c.from_residual.result in
    let p = err_from_is_err_and r c.from_residual.ensures.1 in
    pushed_stops_within r p.0 p.1 (g.W.Target.written c.args.target.now) (g.W.Target.written c.loop-row.target)
    (rows_text found c.args.elem c.args.bytes.now c.args.count) (flat_map line (range_with_len row (end - row)))
    (c.loop-row.invariant.pushed found is) (g.W.Target.written c.write_line.new.target) (line row)
    (flat_map line (range_with_len (row + 1) (end - (row + 1)))) (first_place line row end c.loop-row-test.true)
    (c.in_err-write_line.ensures.bytes (line row) (c.row_line-line.ensures found is))

pub loop-row-preserved : goal.loop-row-preserved
loop-row-preserved g c = record {
  pushed = λ found is.
      let line = λ (row : ℕ). row_line found c.args.elem c.args.bytes.now c.args.count (row * 16) in
      let end = (c.args.count + 15) / 16 in
      let row = c.loop-row.row in
      Pushed-more (g.W.Target.written c.args.target.now) (g.W.Target.written c.loop-row.target) (g.W.Target.written c.write_line.new.target)
      (rows_text found c.args.elem c.args.bytes.now c.args.count) (flat_map line (range_with_len row (end - row))) (line row)
      (flat_map line (range_with_len (row + 1) (end - (row + 1)))) (c.loop-row.invariant.pushed found is)
      (first_place line row end c.loop-row-test.true)
      (c.in_ok-write_line.ensures.bytes (line row) (c.row_line-line.ensures found is));
  well = c.in_ok-write_line.ensures.health;
}
