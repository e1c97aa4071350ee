use Rattle.std.proofs.Common.{◌≡◌, ◌∙◌, ℕ, List, subst, sym}
use Rattle.std.specs.Prelude.{IfOk}
use Rattle.std.specs.String.{string_bytes}
use Rattle.hprof_heap.specs.HeapFacts.{facts_of}
use Rattle.hprof_histogram.specs.declared.row.Kind.{Kind}
use Rattle.hprof_naming.proofs.Namings.{one_label}
use Rattle.hprof_reports.specs.HistogramText.{class_row_line, kind_line}
use Rattle.hprof_reports.proofs.histogram_report.row_line.Goals as goal

pub returns-in_ok-label-in-Class : goal.returns-in_ok-label-in-Class
returns-in_ok-label-in-Class c = λ naming is.
    let facts = facts_of c.args.heap.now in
    let class = c.in-Class.class in
    let row = c.args.row.now in
    let same = one_label facts c.holds_of_heap.ensures.agree class (string_bytes c.in_ok-label-in-Class.label) (naming.label class)
    (c.name_of.result, c.name_of.ensures facts c.requires, c.in_ok-label-in-Class.ensures) (is.labels class) in
    subst (λ (kind : Kind). IfOk c.class_row_line.result (λ line. string_bytes line ≡ kind_line naming row.bytes row.count kind))
    (sym c.in-Class.is)
    (subst (λ (label : List ℕ). IfOk c.class_row_line.result (λ line. string_bytes line ≡ class_row_line row.bytes row.count class label))
    (c.deref.ensures ∙ same) c.class_row_line.ensures)
