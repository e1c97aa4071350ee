use Rattle.std.proofs.Common.{sym, ap, ◌∙◌}
use Rattle.hprof_heap.specs.HeapFacts.{facts_of, size_of}
use Rattle.hprof_naming.specs.declared.text.Text.{Text}
use Rattle.hprof_naming.specs.Texts.{text_value}
use Rattle.hprof_threads.specs.ThreadNames.{units_in}
use Rattle.hprof_describe.proofs.FoundOnce.{text_found}
use Rattle.hprof_describe.proofs.WordParts.{no_units}
use Rattle.hprof_describe.proofs.references.text_units.Goals as goal

pub returns-in-Units : goal.returns-in-Units
returns-in-Units c = λ found are.
    let text = c.in_ok-units.field-0 in
    let same = text_found (size_of c.args.heap.now) (facts_of c.args.heap.now) c.holds_of_heap.ensures.agree found are c.args.id
    (text_value text) c.in_ok-units.ensures in
    ap (λ (t : Text). units_in (text_value t)) (sym c.in-Units.is) ∙ ap units_in same

pub returns-in_default : goal.returns-in_default
returns-in_default c = λ found are.
    let text = c.in_ok-units.field-0 in
    let same = text_found (size_of c.args.heap.now) (facts_of c.args.heap.now) c.holds_of_heap.ensures.agree found are c.args.id
    (text_value text) c.in_ok-units.ensures in
    sym (no_units text c.in_default.not-Units) ∙ ap units_in same
