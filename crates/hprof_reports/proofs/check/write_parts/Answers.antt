use Rattle.std.proofs.Common.{◌+◌, List, length, get_or, drop, ap}
use Rattle.std.proofs.lemmas.List.{drop_all}
use Rattle.std.proofs.lemmas.Result.{err_from_is_err_and}
use Rattle.hprof_devices.proofs.Writes.{Pushed-more, Pushed-all}
use Rattle.hprof_stream.specs.declared.summary.PartSummary.{PartSummary}
use Rattle.hprof_reports.specs.Check.{part_line, part_lines}
use Rattle.hprof_reports.proofs.CheckLines.{no_part, part_lines_from, Pushed-stops}
use Rattle.hprof_reports.proofs.check.write_parts.Goals as goal

pub returns-in_err-write_part-clause-bytes : goal.returns-in_err-write_part-clause-bytes
returns-in_err-write_part-clause-bytes g c =
    let parts = c.args.parts.now in
    let place = c.loop-number.number in
    let p = err_from_is_err_and c.from_residual.result c.from_residual.ensures.1 in
    Pushed-stops (g.W.Target.written c.args.target.now) (g.W.Target.written c.loop-number.target)
    (g.W.Target.written c.write_part.new.target) c.from_residual.result p.0 (part_lines 0 parts) (part_lines place (drop place parts))
    (part_line place (get_or parts place no_part)) (part_lines (place + 1) (drop (place + 1) parts)) p.1
    c.loop-number.invariant.pushed (part_lines_from parts place c.loop-number-test.true) c.in_err-write_part.ensures.bytes

pub loop-number-preserved : goal.loop-number-preserved
loop-number-preserved g c =
    let parts = c.args.parts.now in
    let place = c.loop-number.number in
    record {
      pushed = Pushed-more (g.W.Target.written c.args.target.now) (g.W.Target.written c.loop-number.target)
          (g.W.Target.written c.write_part.new.target) (part_lines 0 parts) (part_lines place (drop place parts))
          (part_line place (get_or parts place no_part)) (part_lines (place + 1) (drop (place + 1) parts))
          c.loop-number.invariant.pushed (part_lines_from parts place c.loop-number-test.true) c.in_ok-write_part.ensures.bytes;
      well = c.in_ok-write_part.ensures.health;
    }

pub returns-clause-bytes : goal.returns-clause-bytes
returns-clause-bytes g c =
    let parts = c.args.parts.now in
    let place = c.loop-number.number in
    Pushed-all (g.W.Target.written c.args.target.now) (g.W.Target.written c.loop-number.target) (part_lines 0 parts)
    (part_lines place (drop place parts)) c.loop-number.invariant.pushed
    (ap (λ (rest : List PartSummary). length (part_lines place rest)) (drop_all place parts c.loop-number-test.false))
