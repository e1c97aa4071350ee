-- The objects of facts, counted by label.
use Rattle.std.specs.Prelude.{◌≡◌, ℕ, List}
use Rattle.hprof_values.specs.declared.ids.IdSize.{IdSize}
use Rattle.hprof_items.specs.FactValue.{FactValue}
use Rattle.hprof_histogram.specs.declared.row.Row.{Row}
use Rattle.hprof_histogram.specs.Histogram.{IsHistogram}
use Rattle.hprof_meaning.specs.BareLabels.{AreBareLabels}
use Rattle.hprof_diff.specs.Labels.{labelled, count_of_rows, bytes_of_rows}

-- how many objects have a label, and how many bytes they have, for every label
pub record Totals : Type 0 where
  pub count : List ℕ → ℕ
  pub bytes : List ℕ → ℕ

-- so it is among these facts: the rows of the histogram with one label are one
pub record AreTotals (ids : IdSize) (facts : List FactValue) (totals : Totals) : Type 0 where
  pub rows : List Row
  pub are_rows : IsHistogram ids facts rows
  pub label : ℕ → List ℕ
  pub are_labels : AreBareLabels facts label
  pub counts : (text : List ℕ) → totals.count text ≡ count_of_rows (labelled label text rows)
  pub bytes : (text : List ℕ) → totals.bytes text ≡ bytes_of_rows (labelled label text rows)
