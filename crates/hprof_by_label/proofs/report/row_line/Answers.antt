use Rattle.std.specs.Prelude.{IfOk}
use Rattle.std.proofs.Common.{◌≡◌, ◌∙◌, ◌++◌, codes, rules, arith}
use Rattle.std.proofs.lemmas.Grind.{common_steps}
use Rattle.std.specs.Fmt.{decimal}
use Rattle.std.specs.String.{string_bytes}
use Rattle.hprof_naming.proofs.Namings.{of_text}
use Rattle.hprof_by_label.specs.RetainedText.{row_line}
use Rattle.hprof_by_label.specs.RowValues.{row_value}
use Rattle.hprof_by_label.proofs.RowLines.{row_parts}
use Rattle.hprof_by_label.proofs.report.row_line.Goals as goal

pub returns : goal.returns
returns c =
    let row = row_value c.args.row.now in
    let made : IfOk c.format.result (λ text. string_bytes text ≡ decimal row.retained ++ (codes " " ++ (decimal row.bytes
    ++ (codes " " ++ (decimal row.count ++ (codes " " ++ (row.label ++ codes "\n"))))))) =
    first_of (search rules, grind (arith, common_steps)) in
    of_text (λ text. string_bytes text ≡ decimal row.retained ++ (codes " " ++ (decimal row.bytes
    ++ (codes " " ++ (decimal row.count ++ (codes " " ++ (row.label ++ codes "\n")))))))
    (λ text. string_bytes text ≡ row_line row) c.format.result (λ text e. e ∙ row_parts row) made
