-- The pieces of a part by the numbers of their labels; no public contract speaks of them.
use Rattle.std.specs.Prelude.{◌≡◌, ◌≢◌, ◌<◌, ◌≤◌, ◌*◌, ◌↔◌, ℕ, Bool, List, AllPairs, Contains, length, slice_index}
use Rattle.std.specs.declared.cmp.Ordering.{Ordering}
use Rattle.hprof_values.specs.declared.ids.IdSize.{IdSize}
use Rattle.hprof_items.specs.FactValue.{FactValue}
use Rattle.hprof_keeps.specs.Order.{node_of, retained_in}
use Rattle.hprof_retained.specs.Tree.{total_of}
use Rattle.hprof_retained.specs.declared.retained.Retained.{Retained}
use Rattle.hprof_by_label.specs.Labels.{label_count, label_text}
use Rattle.hprof_by_label.specs.declared.node_labels.NodeLabels.{NodeLabels}
use Rattle.hprof_suspects.specs.Heads.{head_in}
use Rattle.hprof_suspects.specs.PartPlaces.{IsMarked, over_in}
use Rattle.hprof_suspects.specs.Parts.{AddUp, IsPiece, PieceSum}
use Rattle.hprof_suspects.specs.SuspectsText.{piece_cmp}
use Rattle.hprof_suspects.specs.declared.piece_lines.PieceLine.{PieceLine}

-- a head right below a part that is no part
pub record IsPieceAt (retained : Retained) (heads : List ℕ) (parts : List Bool) (part place : ℕ) : Type 0 where
  pub own : head_in heads place ≡ place
  pub over : over_in retained heads place ≡ part
  pub no_part : ¬ (IsMarked parts place)

-- of each label what the pieces of a part with it retain, and their number
pub record AreLabelSums (ids : IdSize) (facts : List FactValue) (retained : Retained) (labels : NodeLabels) (part : ℕ)
    (bytes counts : List ℕ) : Type 0 where
  pub as_many : length bytes ≡ label_count labels
  pub as_many_counts : length counts ≡ label_count labels
  pub each : (label : ℕ) → label < label_count labels → AddUp ids facts (retained_in retained) (total_of retained)
      (IsPiece ids facts (retained_in retained) (total_of retained) (node_of retained part) (label_text labels label))
      (slice_index bytes label) (slice_index counts label)

-- ---- lines

abbrev pub sum_of : NodeLabels → PieceLine → PieceSum
sum_of labels line = record { label = label_text labels line.label; bytes = line.bytes; count = line.count }

-- the most bytes first, then the most nodes, then by label, byte by byte
abbrev pub line_cmp : NodeLabels → PieceLine → PieceLine → Ordering
line_cmp labels one other = piece_cmp (sum_of labels one) (sum_of labels other)

-- the sums of a label before a bound, if they are a tenth of the pieces at least
pub record IsLineTo (bytes counts : List ℕ) (pieces done : ℕ) (line : PieceLine) : Type 0 where
  pub before : line.label < done
  pub bytes_are : line.bytes ≡ slice_index bytes line.label
  pub count_is : line.count ≡ slice_index counts line.label
  pub some : line.count ≢ 0
  pub enough : pieces ≤ 10 * line.bytes

-- these are all, each once
pub record AreLinesTo (bytes counts : List ℕ) (pieces done : ℕ) (lines : List PieceLine) : Type 0 where
  pub ascend : AllPairs (λ one other. one.label < other.label) lines
  pub exact : (line : PieceLine) → Contains lines line ↔ IsLineTo bytes counts pieces done line
