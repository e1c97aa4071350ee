use Rattle.std.specs.Prelude.{IfOk}
use Rattle.std.proofs.Common.{◌≡◌, ◌++◌, ◌∙◌, codes, refl, arith, rules}
use Rattle.std.proofs.lemmas.Grind.{common_steps}
use Rattle.std.specs.String.{string_bytes}
use Rattle.hprof_text.specs.Identifier.{id_digits}
use Rattle.hprof_heap.specs.ObjectDump.{fact_of_object}
use Rattle.hprof_naming.proofs.Namings.{of_text}
use Rattle.hprof_show.specs.ShowText.{object_line}
use Rattle.hprof_show.proofs.LineParts.{object_parts}
use Rattle.hprof_show.proofs.show.object_line.Goals as goal

pub returns : goal.returns
returns c =
    let made : IfOk c.format.result (λ text. string_bytes text
    ≡ id_digits c.args.id ++ (codes " " ++ (string_bytes c.in_ok-words.words ++ codes "\n"))) =
    first_of (search rules, grind (arith, common_steps)) in
    λ found is.
    let id = c.args.id in
    let fact = fact_of_object c.args.dump.now in
    let words = string_bytes c.in_ok-words.words in
    of_text (λ text. string_bytes text ≡ id_digits id ++ (codes " " ++ (words ++ codes "\n")))
    (λ text. string_bytes text ≡ object_line found id fact) c.format.result
    (λ text e. e ∙ object_parts found id fact (id_digits id) words refl (c.in_ok-words.ensures found is)) made
