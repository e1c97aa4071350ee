use Rattle.std.proofs.Common.{refl}
use Rattle.std.proofs.lemmas.Result.{err_from_is_err_and}
use Rattle.hprof_diff.specs.OneChanges.{kept_difference}
use Rattle.hprof_lines.proofs.TextWriting.{text_unwritten}
use Rattle.hprof_diff.specs.DifferenceText.{changes_text}
use Rattle.hprof_diff.proofs.report.write_difference.Goals as goal

-- memory was wanted before the first line
pub returns-in_err-changes-clause-bytes : goal.returns-in_err-changes-clause-bytes
returns-in_err-changes-clause-bytes g c =
    let changes = kept_difference c.args.old.now c.args.new.now in
    let p = err_from_is_err_and c.from_residual.result c.from_residual.ensures.1 in (
      changes_text changes.0,
      record { changes = changes.0; is_difference = changes.1; is = refl },
      text_unwritten c.from_residual.result (g.W.Target.written c.args.target.now) p.0 (changes_text changes.0) p.1,
    )
