use Rattle.std.specs.Prelude.{IfOk}
use Rattle.std.proofs.Common.{◌≡◌, ◌++◌, codes, sym, ap, ◌∙◌, arith, rules}
use Rattle.std.proofs.lemmas.Grind.{common_steps}
use Rattle.std.specs.Option.{option_map}
use Rattle.std.specs.String.{string_bytes}
use Rattle.hprof_text.specs.Identifier.{id_digits}
use Rattle.hprof_heap.specs.ClassDump.{class_value}
use Rattle.hprof_heap.specs.HeapFacts.{facts_of, size_of}
use Rattle.hprof_heap.specs.ObjectDump.{fact_of_object}
use Rattle.hprof_naming.proofs.Namings.{of_text}
use Rattle.hprof_lines.specs.Line.{nothing_line}
use Rattle.hprof_describe.proofs.FoundOnce.{class_found, object_found}
use Rattle.hprof_holders.specs.WhoText.{none_line}
use Rattle.hprof_holders.proofs.WhoWords.{no_none_line, none_of_value, some_none_line}
use Rattle.hprof_holders.proofs.who_report.none_line.Goals as goal
use Rattle.hprof_holders.proofs.who_report.none_line.Goals.{in_default-via-in-None+in_default, in_default-via-in_default}

pub returns-in-None-None : goal.returns-in-None-None
returns-in-None-None c = λ found are.
    let ids = size_of c.args.view.heap.now in
    let facts = facts_of c.args.view.heap.now in
    let agree = c.holds_of_heap.ensures.agree in
    let id = c.args.id in
    let class = class_found ids facts agree found are id c.find_class.result c.find_class.ensures in
    let object = object_found ids facts agree found are id c.find_object.result c.find_object.ensures in
    of_text (λ text. string_bytes text ≡ nothing_line id) (λ text. string_bytes text ≡ none_line id (found.class id) (found.object id))
    c.nothing_line.result
    (λ text e. e ∙ no_none_line id (found.class id) (found.object id)
    (sym class ∙ ap (option_map class_value) c.in-None-None.is-0) (sym object ∙ ap (option_map fact_of_object) c.in-None-None.is-1))
    c.nothing_line.ensures

pub returns-in_default : goal.returns-in_default
returns-in_default c = λ found are.
    let ids = size_of c.args.view.heap.now in
    let facts = facts_of c.args.view.heap.now in
    let agree = c.holds_of_heap.ensures.agree in
    let id = c.args.id in
    let class = class_found ids facts agree found are id c.find_class.result c.find_class.ensures in
    let object = object_found ids facts agree found are id c.find_object.result c.find_object.ensures in
    let made : IfOk c.format.result (λ text. string_bytes text ≡ codes "nothing refers to " ++ (id_digits id ++ codes "\n")) =
    first_of (search rules, grind (arith, common_steps)) in
    of_text (λ text. string_bytes text ≡ codes "nothing refers to " ++ (id_digits id ++ codes "\n"))
    (λ text. string_bytes text ≡ none_line id (found.class id) (found.object id)) c.format.result
    (λ text e. e ∙ some_none_line id (found.class id) (found.object id) (λ no_class no_object.
    let none_class = none_of_value class_value c.find_class.result (class ∙ no_class) in
    let none_object = none_of_value fact_of_object c.find_object.result (object ∙ no_object) in
    elim c.in_default.branch [
      | in_default-via-in-None+in_default w ↦ let some = w.in_default.is-1 in cc
      | in_default-via-in_default w ↦ let some = w.in_default.is-0 in cc
    ]))
    made
