-- What is kept of all rows are totals.
use Rattle.std.proofs.Common.{◌≡◌, ℕ, List, sym, ap, ◌∙◌}
use Rattle.std.specs.Prelude.{bytes_eq}
use Rattle.std.specs.List.Sorted.{IsPermutation}
use Rattle.hprof_values.specs.declared.ids.IdSize.{IdSize}
use Rattle.hprof_items.specs.FactValue.{FactValue}
use Rattle.hprof_passes.specs.Passing.{IsWhole}
use Rattle.hprof_histogram.specs.declared.row.Row.{Row}
use Rattle.hprof_histogram.specs.Histogram.{IsHistogram}
use Rattle.hprof_diff.specs.declared.counted.Counted.{Counted}
use Rattle.hprof_diff.specs.declared.label_count.LabelCount.{LabelCount}
use Rattle.hprof_diff.specs.declared.label_count.LabelSource.{LabelSource}
use Rattle.hprof_diff.specs.declared.label_count.LabelSource.TheVariants.{Class, Prim}
use Rattle.hprof_diff.specs.declared.label_counts.LabelCounts.{LabelCounts}
use Rattle.hprof_diff.specs.Counts.{AreTotals}
use Rattle.hprof_diff.specs.Kept.{AreKept, totals_in}
use Rattle.hprof_meaning.specs.BareLabels.{AreBareLabels}
use Rattle.hprof_diff.specs.Labels.{kind_label}
use Rattle.hprof_diff.specs.Sources.{AreSourceLabels, IsSourceLabel, parts_under, rows_under}
use Rattle.hprof_meaning.proofs.LabelTexts.{labels_exist}
use Rattle.hprof_meaning.proofs.WholeLabels.{bare_label_of_same, bare_labels_same}
use Rattle.hprof_diff.specs.LabelTexts.{source_labels_exist}
use Rattle.hprof_diff.proofs.Sums.{sum_of_filter, under_moved}

module _ (ids : IdSize) (facts all : List FactValue) (whole : IsWhole ids facts all) where
  source_label_same : (source : LabelSource) (text : List ℕ) → IsSourceLabel all source text → IsSourceLabel facts source text
  source_label_same (Class name) text is = bare_label_of_same ids facts all whole name text is
  source_label_same (Prim elem) text is = is

  module _ (rows : List Row) (is : IsHistogram ids all rows) (parts sorted : List LabelCount) (moved : IsPermutation parts sorted) where
    -- what is kept of them are totals
    pub kept_are_totals : ((label : LabelSource → List ℕ) (class_label : ℕ → List ℕ) → AreSourceLabels facts label
        → AreBareLabels facts class_label
        → (text : List ℕ) → parts_under label text parts ≡ rows_under class_label text rows) → (counts : LabelCounts)
        → AreKept facts sorted counts → AreTotals ids all (totals_in counts)
    kept_are_totals labelled counts kept =
        let of_source = source_labels_exist all in
        let of_class = labels_exist all in
        let here : AreSourceLabels facts of_source.0 = λ source. source_label_same source (of_source.0 source) (of_source.1 source) in
        let each = λ (text : List ℕ). kept of_source.0 here text
        ∙ under_moved (λ (p : LabelCount). of_source.0 p.source) (λ (p : LabelCount). p.counted) text parts sorted moved
        ∙ labelled of_source.0 of_class.0 here (bare_labels_same ids facts all whole of_class.0 of_class.1) text in
        record {
          rows = rows;
          are_rows = is;
          label = of_class.0;
          are_labels = of_class.1;
          counts = λ text.
              ap (λ (c : Counted). c.count) (each text)
              ∙ sym (sum_of_filter (λ (row : Row). row.count) (λ row. bytes_eq (kind_label of_class.0 row.kind) text) rows);
          bytes = λ text.
              ap (λ (c : Counted). c.bytes) (each text)
              ∙ sym (sum_of_filter (λ (row : Row). row.bytes) (λ row. bytes_eq (kind_label of_class.0 row.kind) text) rows);
        }
