use Rattle.std.proofs.Common.{◌≡◌, ◌++◌, ◌∙◌, codes}
use Rattle.std.specs.Fmt.{decimal}
use Rattle.std.specs.String.{string_bytes}
use Rattle.hprof_naming.proofs.Namings.{of_text}
use Rattle.hprof_show.specs.ClassLines.{own_line}
use Rattle.hprof_show.proofs.LineParts.{own_parts}
use Rattle.hprof_show.proofs.entries.FieldPart.line.Goals as goal

pub returns : goal.returns
returns c = λ found is.
    let place = decimal c.args.place in
    let word = c.type_word-word.result.now in
    let name = string_bytes c.in_ok-name.name in
    of_text
    (λ text. string_bytes text
    ≡ codes "  own " ++ (place ++ (codes " " ++ (word ++ (codes " " ++ (name ++ codes "\n"))))))
    (λ text. string_bytes text ≡ own_line found c.args.place c.args.self.now) c.format.result
    (λ text e. e ∙ own_parts place word _ name _ c.type_word-word.ensures (c.in_ok-name.ensures.named found.naming is.is_naming))
    c.format.ensures.ok
