-- Rows as they are kept; no public contract speaks of them.
use Rattle.std.specs.Prelude.{◌≡◌, ◌<◌, ℕ, List, Bool, Contains, bytes_eq, slice_index}
use Rattle.std.specs.List.{IsDistinct}
use Rattle.hprof_by_label.specs.LabelRows.{RowValue}
use Rattle.hprof_by_label.specs.Labels.{label_text}
use Rattle.hprof_by_label.specs.declared.node_labels.NodeLabels.{NodeLabels}
use Rattle.hprof_by_label.specs.declared.row.Row.{Row}

-- what a row says
abbrev pub row_value : Row → RowValue
row_value row = record { label = row.label.now; retained = row.retained; bytes = row.bytes; count = row.count }

-- the row of a label by its number
abbrev pub row_at : NodeLabels → List ℕ → List ℕ → List ℕ → ℕ → RowValue
row_at labels bytes counts retained number = record {
  label = label_text labels number;
  retained = slice_index retained number;
  bytes = slice_index bytes number;
  count = slice_index counts number;
}

-- whether two rows are of one label
abbrev pub same_label : RowValue → RowValue → Bool
same_label row other = bytes_eq row.label other.label

-- these are the rows of the labels with numbers below a bound that some node has
pub record AreRowsTo (labels : NodeLabels) (bytes counts retained : List ℕ) (done : ℕ) (rows : List RowValue) : Type 0 where
  pub right : (row : RowValue) → Contains rows row
      → (number : ℕ) × (number < done) × (0 < slice_index counts number) × (row ≡ row_at labels bytes counts retained number)
  pub all : (number : ℕ) → number < done → 0 < slice_index counts number → Contains rows (row_at labels bytes counts retained number)
  pub apart : IsDistinct same_label rows
