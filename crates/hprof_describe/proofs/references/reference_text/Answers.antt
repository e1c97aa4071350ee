use Rattle.std.specs.Prelude.{IfOk}
use Rattle.std.proofs.Common.{◌≡◌, ◌++◌, codes, ◌∙◌, arith, rules}
use Rattle.std.proofs.lemmas.Grind.{common_steps}
use Rattle.std.specs.String.{string_bytes}
use Rattle.hprof_text.specs.Identifier.{id_digits}
use Rattle.hprof_heap.specs.HeapFacts.{facts_of, size_of}
use Rattle.hprof_naming.proofs.Namings.{of_text}
use Rattle.hprof_describe.specs.References.{reference_text}
use Rattle.hprof_describe.proofs.FoundOnce.{words_found}
use Rattle.hprof_describe.proofs.WordParts.{not_null, null_reference, reference_of_parts}
use Rattle.hprof_describe.proofs.references.reference_text.Goals as goal

pub returns-then-id-eq0 : goal.returns-then-id-eq0
returns-then-id-eq0 c = λ found are.
    let made : IfOk c.from_str.result (λ text. string_bytes text ≡ codes "null") = search rules in
    of_text (λ text. string_bytes text ≡ codes "null") (λ text. string_bytes text ≡ reference_text found c.args.id) c.from_str.result
    (λ text e. e ∙ null_reference found c.args.id c.if-id-eq0.true) made

pub returns : goal.returns
returns c =
    let made : IfOk c.format.result
    (λ text. string_bytes text ≡ id_digits c.args.id ++ (codes " " ++ string_bytes c.in_ok-words.words)) =
    first_of (search rules, grind (arith, common_steps)) in
    λ found are.
    let id = c.args.id in
    let words = string_bytes c.in_ok-words.words in
    let same = words_found (size_of c.args.heap.now) (facts_of c.args.heap.now) c.holds_of_heap.ensures.agree found are id
    c.find_class-class.result c.find_object-object.result c.find_class-class.ensures c.find_object-object.ensures in
    of_text (λ text. string_bytes text ≡ id_digits id ++ (codes " " ++ words))
    (λ text. string_bytes text ≡ reference_text found id) c.format.result
    (λ text e. e ∙ reference_of_parts found id words (not_null id c.if-id-eq0.false) (c.in_ok-words.ensures found are ∙ same)) made
