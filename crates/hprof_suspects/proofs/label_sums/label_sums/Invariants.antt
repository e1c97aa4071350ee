use Rattle.std.proofs.Common.{◌≡◌, ◌<◌, ℕ, List, length, slice_index}
use Rattle.hprof_values.specs.declared.ids.IdSize.{IdSize}
use Rattle.hprof_items.specs.FactValue.{FactValue}
use Rattle.hprof_rows.specs.Conflict.{IsConsistent}
use Rattle.hprof_numbers.specs.Numbers.{items_in}
use Rattle.hprof_retained.specs.Tree.{IsTreeOf}
use Rattle.hprof_by_label.specs.Labels.{AreNodeLabels, label_count}
use Rattle.hprof_suspects.specs.Heads.{AreHeads}
use Rattle.hprof_suspects.specs.PartPlaces.{AreParts}
use Rattle.hprof_suspects.proofs.LabelSumsSoFar.{AreLabelSumsTo}
use Rattle.hprof_suspects.proofs.label_sums.label_sums.Given as goal

-- the sums over the pieces at the places so far
abbrev pub invariant-loop-place : goal.invariant-loop-place
invariant-loop-place l = record {
  as_many : length l.bytes.items ≡ label_count l.labels;
  as_many_counts : length l.counts.items ≡ label_count l.labels;
  few : (label : ℕ) → label < label_count l.labels → slice_index l.counts.items label < l.place;
  sums : (ids : IdSize) (facts : List FactValue) → IsConsistent facts → IsTreeOf ids facts l.retained
      → AreNodeLabels facts l.retained l.labels → AreHeads ids facts l.retained (items_in l.heads)
      → AreParts ids facts l.retained l.parts.items → AreLabelSumsTo ids facts l.retained l.labels (items_in l.heads) l.parts.items l.part
      l.bytes.items l.counts.items l.place;
}
