use Rattle.std.specs.Prelude.{IfOk}
use Rattle.std.proofs.Common.{◌≡◌, ◌∙◌, ◌++◌, codes, rules}
use Rattle.std.specs.Fmt.{decimal}
use Rattle.std.specs.String.{string_bytes}
use Rattle.hprof_naming.proofs.Namings.{of_text}
use Rattle.hprof_keeps.specs.KeepsText.{weakly_line}
use Rattle.hprof_keeps.specs.WeakSum.{sum_of}
use Rattle.hprof_keeps.proofs.LineParts.{weakly_parts}
use Rattle.hprof_keeps.proofs.lines.weakly_line.Goals as goal

pub returns : goal.returns
returns c =
    let sum = sum_of c.args.sum.now in
    let end = codes " only by weak references\n" in
    let made : IfOk c.format.result (λ text. string_bytes text
    ≡ decimal sum.bytes ++ (codes " " ++ (decimal sum.objects ++ end))) = search rules in
    of_text (λ text. string_bytes text ≡ decimal sum.bytes ++ (codes " " ++ (decimal sum.objects ++ end)))
    (λ text. string_bytes text ≡ weakly_line sum) c.format.result (λ text e. e ∙ weakly_parts sum c.if-objects-eq0.false) made
