-- The report `histo` is one text.
use Rattle.std.proofs.Common.{◌≡◌, ℕ, List, sym, ap, ◌∙◌}
use Rattle.hprof_values.specs.declared.ids.IdSize.{IdSize}
use Rattle.hprof_items.specs.FactValue.{FactValue}
use Rattle.hprof_histogram.proofs.OneHistogram.{at_most_one}
use Rattle.hprof_naming.specs.Naming.{Naming}
use Rattle.hprof_naming.proofs.Namings.{one_naming}
use Rattle.hprof_reports.specs.HistogramText.{rows_text, IsHistogramText}

pub one_histogram_text : (ids : IdSize) (facts : List FactValue) (one other : List ℕ) → IsHistogramText ids facts one
    → IsHistogramText ids facts other → one ≡ other
one_histogram_text ids facts one other is is_too =
    let naming = one_naming facts is.agree is.naming is_too.naming is.is_naming is_too.is_naming in
    let rows = at_most_one ids facts is.rows is_too.rows is.are_rows is_too.are_rows in
    is.is ∙ ap (λ (n : Naming). rows_text n is.rows) naming ∙ ap (rows_text is_too.naming) rows ∙ sym is_too.is
