use Rattle.std.proofs.Common.{◌+◌, ◌++◌, length, get_or, drop, ap, refl}
use Rattle.std.proofs.lemmas.Result.{err_from_is_err_and}
use Rattle.hprof_devices.proofs.Writes.{Pushed-more, Pushed-all}
use Rattle.hprof_lines.proofs.TextWriting.{pushed_stops_within}
use Rattle.hprof_show.specs.FieldLines.{field_line, fields_from, from_line}
use Rattle.hprof_show.proofs.ToldFields.{field_next, no_field, no_next}
use Rattle.hprof_show.proofs.field_lines.write_values.Goals as goal

pub returns-in_err-write_line-clause-bytes : goal.returns-in_err-write_line-clause-bytes
returns-in_err-write_line-clause-bytes g c = λ found is.
    let values = c.args.values.now in
    let before = c.loop-place.before in
    let place = c.loop-place.place in
    let value = get_or values place no_field in
    let from = from_line found before value.class in
    let line = field_line found place value in
    let others = fields_from found value.class (place + 1) (drop (place + 1) values) in
    let r = c.from_residual.result in
    let p = err_from_is_err_and r c.from_residual.ensures.1 in
    pushed_stops_within r p.0 p.1 (g.W.Target.written c.args.target.now) (g.W.Target.written c.loop-place.target)
    (fields_from found c.args.class 0 values) (fields_from found before place (drop place values)) (c.loop-place.invariant.pushed found is)
    (g.W.Target.written c.write_line.new.target) from (line ++ others)
    (field_next found before place values c.loop-place-test.true)
    (c.in_err-write_line.ensures.bytes from (c.from_line.ensures found is))

pub returns-in_err-write_line-2-clause-bytes : goal.returns-in_err-write_line-2-clause-bytes
returns-in_err-write_line-2-clause-bytes g c = λ found is.
    let values = c.args.values.now in
    let before = c.loop-place.before in
    let place = c.loop-place.place in
    let value = get_or values place no_field in
    let from = from_line found before value.class in
    let line = field_line found place value in
    let others = fields_from found value.class (place + 1) (drop (place + 1) values) in
    let all = fields_from found c.args.class 0 values in
    let old = g.W.Target.written c.args.target.now in
    let mid = g.W.Target.written c.write_line.new.target in
    let new = g.W.Target.written c.write_line-in-loop-place.new.target in
    let named = Pushed-more old (g.W.Target.written c.loop-place.target) mid all (fields_from found before place (drop place values)) from
    (line ++ others) (c.loop-place.invariant.pushed found is) (field_next found before place values c.loop-place-test.true)
    (c.in_ok-write_line.ensures.bytes from (c.from_line.ensures found is)) in
    let r = c.from_residual-in_err-write_line-2.result in
    let p = err_from_is_err_and r c.from_residual-in_err-write_line-2.ensures.1 in
    pushed_stops_within r p.0 p.1 old mid all (line ++ others) named new line others refl
    (c.in_err-write_line-2.ensures.bytes line (c.field_line.ensures found is))

pub loop-place-preserved : goal.loop-place-preserved
loop-place-preserved g c = record {
  pushed = λ found is.
      let values = c.args.values.now in
      let before = c.loop-place.before in
      let place = c.loop-place.place in
      let value = get_or values place no_field in
      let from = from_line found before value.class in
      let line = field_line found place value in
      let others = fields_from found value.class (place + 1) (drop (place + 1) values) in
      let all = fields_from found c.args.class 0 values in
      let old = g.W.Target.written c.args.target.now in
      let mid = g.W.Target.written c.write_line.new.target in
      let new = g.W.Target.written c.write_line-in-loop-place.new.target in
      let named = Pushed-more old (g.W.Target.written c.loop-place.target) mid all (fields_from found before place (drop place values)) from
      (line ++ others) (c.loop-place.invariant.pushed found is) (field_next found before place values c.loop-place-test.true)
      (c.in_ok-write_line.ensures.bytes from (c.from_line.ensures found is)) in
      Pushed-more old mid new all (line ++ others) line others named refl
      (c.in_ok-write_line-2.ensures.bytes line (c.field_line.ensures found is));
  well = c.in_ok-write_line-2.ensures.health;
}

pub returns-clause-bytes : goal.returns-clause-bytes
returns-clause-bytes g c = λ found is.
    let values = c.args.values.now in
    let before = c.loop-place.before in
    let place = c.loop-place.place in
    Pushed-all (g.W.Target.written c.args.target.now) (g.W.Target.written c.loop-place.target) (fields_from found c.args.class 0 values)
    (fields_from found before place (drop place values)) (c.loop-place.invariant.pushed found is)
    (ap length (no_next found before place values c.loop-place-test.false))
