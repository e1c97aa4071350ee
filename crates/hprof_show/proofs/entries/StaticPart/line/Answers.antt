use Rattle.std.proofs.Common.{◌≡◌, ◌++◌, ◌∙◌, codes}
use Rattle.std.specs.Fmt.{decimal}
use Rattle.std.specs.String.{string_bytes}
use Rattle.hprof_naming.proofs.Namings.{of_text}
use Rattle.hprof_show.specs.ClassLines.{static_line}
use Rattle.hprof_show.proofs.LineParts.{static_parts}
use Rattle.hprof_show.proofs.entries.StaticPart.line.Goals as goal

pub returns : goal.returns
returns c = λ found is.
    let place = decimal c.args.place in
    let name = string_bytes c.in_ok-name.name in
    let value = string_bytes c.in_ok-value.value in
    of_text
    (λ text. string_bytes text
    ≡ codes "  static " ++ (place ++ (codes " " ++ (name ++ (codes " = " ++ (value ++ codes "\n"))))))
    (λ text. string_bytes text ≡ static_line found c.args.place c.args.self.now) c.format.result
    (λ text e. e ∙ static_parts place name _ value _ (c.in_ok-name.ensures.named found.naming is.is_naming)
    (c.in_ok-value.ensures found is))
    c.format.ensures.ok
