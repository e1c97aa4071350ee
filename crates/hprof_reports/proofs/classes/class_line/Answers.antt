use Rattle.std.proofs.Common.{◌≡◌, ◌∙◌, ℕ, List, subst}
use Rattle.std.specs.Prelude.{IfOk}
use Rattle.std.specs.String.{string_bytes}
use Rattle.hprof_heap.specs.HeapFacts.{facts_of}
use Rattle.hprof_histogram.specs.declared.counted.Counted.{Counted}
use Rattle.hprof_histogram.specs.declared.row.Kind.TheVariants as kinds
use Rattle.hprof_naming.proofs.Namings.{one_label}
use Rattle.hprof_reports.specs.ClassesText.{counted_line}
use Rattle.hprof_reports.proofs.classes.class_line.Goals as goal

pub returns : goal.returns
returns c = λ naming all is counted.
    let facts = facts_of c.args.heap.now in
    let dump = c.args.dump.now in
    let same = one_label facts c.holds_of_heap.ensures.agree dump.id (string_bytes c.in_ok-label.label) (naming.label dump.id)
    (c.name_of.result, c.name_of.ensures facts c.requires.named, c.in_ok-label.ensures) (is.labels dump.id) in
    subst (λ (counted : Counted). IfOk c.counted_line.result
    (λ line. string_bytes line ≡ counted_line counted dump.id dump.parent (naming.label dump.id)))
    (c.of_class.ensures ∙ counted (kinds.Class dump.id))
    (subst (λ (label : List ℕ). IfOk c.counted_line.result
    (λ line. string_bytes line ≡ counted_line c.of_class.result dump.id dump.parent label))
    (c.deref.ensures ∙ same) c.counted_line.ensures)
