use Rattle.std.proofs.Common.{◌≡◌, ℕ, List, ◌++◌, sym, ap, codes, append_assoc, ◌∙◌}
use Rattle.std.specs.Fmt.{decimal}
use Rattle.std.specs.String.{string_bytes}
use Rattle.hprof_naming.specs.TypeWord.{type_word}
use Rattle.hprof_naming.proofs.Namings.{of_text}
use Rattle.hprof_describe.proofs.references.values_words.Goals as goal

pub returns : goal.returns
returns c =
    let word = c.type_word-word.result.now in
    let count = decimal c.args.count in
    of_text (λ text. string_bytes text ≡ word ++ (codes "[] of " ++ count))
    (λ text. string_bytes text ≡ type_word c.args.elem ++ codes "[] of " ++ count) c.format.result
    (λ text e. e ∙ sym (append_assoc word (codes "[] of ") count)
    ∙ ap (λ (l : List ℕ). l ++ codes "[] of " ++ count) c.type_word-word.ensures) c.format.ensures.ok
