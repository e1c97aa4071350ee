use Rattle.std.proofs.Common.{◌≡◌, ◌++◌, ◌∙◌, codes}
use Rattle.std.specs.Fmt.{decimal}
use Rattle.std.specs.String.{string_bytes}
use Rattle.hprof_naming.proofs.Namings.{of_text}
use Rattle.hprof_show.specs.ClassLines.{constant_line}
use Rattle.hprof_show.proofs.LineParts.{constant_parts}
use Rattle.hprof_show.proofs.entries.ConstantPart.line.Goals as goal

pub returns : goal.returns
returns c = λ found is.
    let place = decimal c.args.place in
    let value = string_bytes c.in_ok-value.value in
    of_text (λ text. string_bytes text ≡ codes "  constant " ++ (place ++ (codes " = " ++ (value ++ codes "\n"))))
    (λ text. string_bytes text ≡ constant_line found c.args.place c.args.self.now) c.format.result
    (λ text e. e ∙ constant_parts place value _ (c.in_ok-value.ensures found is)) c.format.ensures.ok
