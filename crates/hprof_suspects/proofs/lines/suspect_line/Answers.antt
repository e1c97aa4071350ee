use Rattle.std.specs.Prelude.{IfOk}
use Rattle.std.proofs.Common.{◌≡◌, ◌∙◌, ◌++◌, ◌*◌, ◌/◌, ap, codes, rules, arith}
use Rattle.std.proofs.lemmas.Grind.{common_steps}
use Rattle.std.specs.Fmt.{decimal}
use Rattle.std.specs.String.{string_bytes}
use Rattle.hprof_naming.proofs.Namings.{of_text}
use Rattle.hprof_retained.specs.Tree.{total_of}
use Rattle.hprof_suspects.specs.SuspectsText.{suspect_line}
use Rattle.hprof_suspects.proofs.LineTexts.{suspect_parts}
use Rattle.hprof_suspects.proofs.lines.suspect_line.Goals as goal

pub returns : goal.returns
returns c =
    let total = total_of c.args.retained.now in
    let pieces = c.args.pieces in
    let percent = c.hundredths-percent.result in
    let made : IfOk c.format.result (λ text. string_bytes text
    ≡ codes "suspect " ++ (decimal percent ++ (codes "% " ++ (decimal pieces ++ codes "\n")))) =
    first_of (search rules, grind (arith, common_steps)) in
    of_text (λ text. string_bytes text ≡ codes "suspect " ++ (decimal percent ++ (codes "% " ++ (decimal pieces ++ codes "\n"))))
    (λ text. string_bytes text ≡ suspect_line total pieces) c.format.result
    (λ text e. e ∙ suspect_parts total percent pieces (c.hundredths-percent.ensures ∙ ap (λ n. 100 * pieces / n) c.bytes.ensures)) made
