use Rattle.std.proofs.Common.{◌≡◌, ℕ, List, ◌++◌, sym, ap, codes, append_assoc, ◌∙◌}
use Rattle.std.specs.Fmt.{decimal}
use Rattle.std.specs.String.{string_bytes}
use Rattle.hprof_naming.proofs.Namings.{of_text}
use Rattle.hprof_describe.proofs.references.elements_words.Goals as goal

pub returns : goal.returns
returns c = λ naming is.
    let label = string_bytes c.in_ok-label.label in
    let count = decimal c.args.count in
    of_text (λ text. string_bytes text ≡ label ++ (codes " of " ++ count))
    (λ text. string_bytes text ≡ naming.label c.args.class ++ codes " of " ++ count) c.format.result
    (λ text e. e ∙ sym (append_assoc label (codes " of ") count)
    ∙ ap (λ (l : List ℕ). l ++ codes " of " ++ count) (c.in_ok-label.ensures naming is)) c.format.ensures.ok
