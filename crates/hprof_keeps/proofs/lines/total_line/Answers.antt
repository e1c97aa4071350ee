use Rattle.std.specs.Prelude.{IfOk}
use Rattle.std.proofs.Common.{◌≡◌, ◌∙◌, ◌++◌, codes, rules, arith}
use Rattle.std.proofs.lemmas.Grind.{common_steps}
use Rattle.std.specs.Fmt.{decimal}
use Rattle.std.specs.String.{string_bytes}
use Rattle.hprof_naming.proofs.Namings.{of_text}
use Rattle.hprof_retained.specs.Tree.{total_of}
use Rattle.hprof_keeps.specs.KeepsText.{total_line}
use Rattle.hprof_keeps.proofs.LineParts.{total_parts}
use Rattle.hprof_keeps.proofs.lines.total_line.Goals as goal

pub returns : goal.returns
returns c =
    let total = total_of c.args.retained.now in
    let made : IfOk c.format.result (λ text. string_bytes text
    ≡ decimal total.bytes ++ (codes " " ++ (decimal total.objects ++ codes " roots\n"))) =
    first_of (search rules, grind (arith, common_steps)) in
    of_text (λ text. string_bytes text ≡ decimal total.bytes ++ (codes " " ++ (decimal total.objects ++ codes " roots\n")))
    (λ text. string_bytes text ≡ total_line total) c.format.result (λ text e. e ∙ total_parts total (codes " roots\n")) made
