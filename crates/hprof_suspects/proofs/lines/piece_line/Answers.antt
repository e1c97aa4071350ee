use Rattle.std.specs.Prelude.{IfOk}
use Rattle.std.proofs.Common.{◌≡◌, ◌∙◌, ◌++◌, codes, rules, arith}
use Rattle.std.proofs.lemmas.Grind.{common_steps}
use Rattle.std.specs.Fmt.{decimal}
use Rattle.std.specs.String.{string_bytes}
use Rattle.hprof_naming.proofs.Namings.{of_text}
use Rattle.hprof_by_label.specs.Labels.{label_text}
use Rattle.hprof_suspects.specs.LabelSums.{sum_of}
use Rattle.hprof_suspects.specs.SuspectsText.{piece_line}
use Rattle.hprof_suspects.proofs.LineTexts.{piece_parts}
use Rattle.hprof_suspects.proofs.lines.piece_line.Goals as goal

pub returns : goal.returns
returns c =
    let line = c.args.line.now in
    let label = c.text_if_any-label.result.now in
    let made : IfOk c.format.result (λ text. string_bytes text
    ≡ codes "  " ++ (decimal line.bytes ++ (codes " " ++ (decimal line.count ++ (codes " " ++ (label ++ codes "\n")))))) =
    first_of (search rules, grind (arith, common_steps)) in
    of_text (λ text. string_bytes text
    ≡ codes "  " ++ (decimal line.bytes ++ (codes " " ++ (decimal line.count ++ (codes " " ++ (label ++ codes "\n"))))))
    (λ text. string_bytes text ≡ piece_line (sum_of c.args.labels.now line)) c.format.result
    (λ text e. e ∙ piece_parts line.bytes line.count label (label_text c.args.labels.now line.label) c.text_if_any-label.ensures) made
