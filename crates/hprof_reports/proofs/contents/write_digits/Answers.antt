use Rattle.std.proofs.Common.{◌≡◌, ◌∙◌, sym}
use Rattle.std.proofs.lemmas.Result.{err_from_is_err_and}
use Rattle.hex.specs.Hex.{encode_lower}
use Rattle.hprof_devices.proofs.Writes.{Pushed-more, Pushed-all}
use Rattle.hprof_reports.proofs.Digits.{digits_split, no_digits}
use Rattle.hprof_reports.proofs.CheckLines.{Pushed-stops}
use Rattle.hprof_text.proofs.Fronts.{ended}
use Rattle.hprof_reports.proofs.contents.write_digits.Goals as goal

pub returns-in_err-write_piece-clause-bytes : goal.returns-in_err-write_piece-clause-bytes
returns-in_err-write_piece-clause-bytes g c =
    let p = err_from_is_err_and c.from_residual.result c.from_residual.ensures.1 in
    let piece = c.split_at.result.0.now in
    let after = c.split_at.result.1.now in
    Pushed-stops (g.W.Target.written c.args.target.now) (g.W.Target.written c.loop-rest.target)
    (g.W.Target.written c.write_piece.new.target)
    c.from_residual.result p.0 (encode_lower c.args.bytes.now) (encode_lower c.loop-rest.rest.now) (encode_lower piece) (encode_lower after)
    p.1 c.loop-rest.invariant.pushed
    (digits_split c.loop-rest.rest.now piece after c.split_at.ensures.by_index.0) c.in_err-write_piece.ensures.bytes

pub loop-rest-preserved : goal.loop-rest-preserved
loop-rest-preserved g c =
    let piece = c.split_at.result.0.now in
    let after = c.split_at.result.1.now in
    record {
      pushed = Pushed-more (g.W.Target.written c.args.target.now) (g.W.Target.written c.loop-rest.target)
          (g.W.Target.written c.write_piece.new.target) (encode_lower c.args.bytes.now) (encode_lower c.loop-rest.rest.now)
          (encode_lower piece) (encode_lower after) c.loop-rest.invariant.pushed
          (digits_split c.loop-rest.rest.now piece after c.split_at.ensures.by_index.0) c.in_ok-write_piece.ensures.bytes;
      well = c.in_ok-write_piece.ensures.health;
    }

pub returns-clause-bytes : goal.returns-clause-bytes
returns-clause-bytes g c =
    let none : c.loop-rest.rest.now ≡ _ = ended c.loop-rest.rest.now (sym c.is_empty.ensures ∙ c.loop-rest-test.false) in
    Pushed-all (g.W.Target.written c.args.target.now) (g.W.Target.written c.loop-rest.target) (encode_lower c.args.bytes.now)
    (encode_lower c.loop-rest.rest.now) c.loop-rest.invariant.pushed (no_digits c.loop-rest.rest.now none)
