use Rattle.std.specs.Prelude.{bytes_eq}
use Rattle.std.proofs.Common.{◌≡◌, ℕ, true, false, List, Option, sym, ap, codes, ◌∙◌}
use Rattle.std.specs.Option.{option_map}
use Rattle.hprof_heap.specs.HeapFacts.{facts_of, size_of}
use Rattle.hprof_naming.specs.declared.text.Units.{Units}
use Rattle.hprof_naming.proofs.Namings.{of_text}
use Rattle.hprof_threads.specs.ThreadNames.{IsThreadName, units_in, units_value}
use Rattle.hprof_describe.specs.References.{text_of_instance}
use Rattle.hprof_describe.proofs.FoundOnce.{name_found}
use Rattle.hprof_describe.proofs.WordParts.{name_of_other, text_of_string}
use Rattle.hprof_describe.proofs.references.text_of_instance.Goals as goal

pub returns-then-is_string : goal.returns-then-is_string
returns-then-is_string c = λ found class are is.
    let id = c.args.id in
    let is_string : bytes_eq (found.naming.label class) (codes "java/lang/String") ≡ true =
    ap (λ (l : List ℕ). bytes_eq l (codes "java/lang/String")) (sym is) ∙ sym c.is_string.ensures ∙ c.if-is_string.true in
    of_text (λ (units : Option Units). option_map units_value units ≡ units_in (found.text id))
    (λ (units : Option Units). option_map units_value units ≡ text_of_instance found id class) c.text_units.result
    (λ units e. e ∙ text_of_string found id class is_string) (c.text_units.ensures found are)

pub returns : goal.returns
returns c = λ found class are is.
    let id = c.args.id in
    let ids = size_of c.args.heap.now in
    let facts = facts_of c.args.heap.now in
    let is_other : bytes_eq (found.naming.label class) (codes "java/lang/String") ≡ false =
    ap (λ (l : List ℕ). bytes_eq l (codes "java/lang/String")) (sym is) ∙ sym c.is_string.ensures ∙ c.if-is_string.false in
    of_text (λ (units : Option Units). IsThreadName ids facts id (option_map units_value units))
    (λ (units : Option Units). option_map units_value units ≡ text_of_instance found id class) c.thread_name.result
    (λ units e. name_found ids facts c.holds_of_heap.ensures.agree found are id (option_map units_value units) e
    ∙ name_of_other found id class is_other) (c.thread_name.ensures c.requires)
