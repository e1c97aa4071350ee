use Rattle.std.specs.Prelude.{map}
use Rattle.std.specs.List.{flat_map}
use Rattle.std.proofs.Common.{List, refl, subst}
use Rattle.std.proofs.lemmas.Result.{err_from_is_err_and}
use Rattle.hprof_lines.specs.Stopping.{WritesText}
use Rattle.hprof_lines.proofs.TextWriting.{text_unwritten}
use Rattle.hprof_by_label.specs.RetainedText.{row_line}
use Rattle.hprof_by_label.specs.RowValues.{row_value}
use Rattle.hprof_by_label.specs.declared.row.Row.{Row}
use Rattle.hprof_by_label.proofs.SomeRetained.{retained_exists}
use Rattle.hprof_by_label.proofs.report.write_labels.Goals as goal

-- memory was wanted before the first line
pub returns-in_err-rows-clause-bytes : goal.returns-in_err-rows-clause-bytes
returns-in_err-rows-clause-bytes g c = λ ids facts agree tree are sizes.
    let text = retained_exists ids facts agree in
    let r = c.from_residual in
    let p = err_from_is_err_and r.result r.ensures.1 in
    (text.0, text.1, text_unwritten r.result (g.W.Target.written c.args.target.now) p.0 text.0 p.1)

pub returns-clause-bytes : goal.returns-clause-bytes
returns-clause-bytes g c = λ ids facts agree tree are sizes.
    let rows = c.in_ok-rows.rows.items in (
      flat_map row_line (map row_value rows),
      record { agree = agree; rows = map row_value rows; are_rows = c.in_ok-rows.ensures ids facts agree tree are sizes; is = refl },
      subst (λ (list : List Row). WritesText (g.W.Target.written c.args.target.now) (g.W.Target.written c.write_rows.new.target)
          c.write_rows.result (flat_map row_line (map row_value list))) c.deref.ensures.value c.write_rows.ensures.bytes,
    )
