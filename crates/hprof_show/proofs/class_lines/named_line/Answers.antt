use Rattle.std.proofs.Common.{◌≡◌, ◌++◌, ◌∙◌, codes}
use Rattle.std.specs.String.{string_bytes}
use Rattle.hprof_naming.proofs.Namings.{of_text}
use Rattle.hprof_show.specs.ClassLines.{named_line}
use Rattle.hprof_show.proofs.LineParts.{named_parts}
use Rattle.hprof_show.proofs.class_lines.named_line.Goals as goal

pub returns : goal.returns
returns c = λ found is.
    let word = c.args.word.now in
    let value = string_bytes c.in_ok-value.value in
    of_text (λ text. string_bytes text ≡ codes "  " ++ (word ++ (codes " = " ++ (value ++ codes "\n"))))
    (λ text. string_bytes text ≡ named_line found word c.args.id) c.format.result
    (λ text e. e ∙ named_parts found word value c.args.id c.if-id-eq0.false (c.in_ok-value.ensures found is)) c.format.ensures.ok
