-- The labels of the nodes of a tree of dominators, by numbers, and their sizes.
use Rattle.std.specs.Prelude.{◌≡◌, ◌<◌, ℕ, List, length, slice_index, vec_len}
use Rattle.hprof_values.specs.declared.ids.IdSize.{IdSize}
use Rattle.hprof_items.specs.FactValue.{FactValue}
use Rattle.hprof_retained.specs.Retained.{IsSizeOf}
use Rattle.hprof_retained.specs.Tree.{count_of, node_at}
use Rattle.hprof_retained.specs.declared.retained.Retained.{Retained}
use Rattle.hprof_by_label.specs.NodeLabel.{IsNodeLabel}
use Rattle.hprof_by_label.specs.Texts.{text_in}
use Rattle.hprof_by_label.specs.declared.node_labels.NodeLabels.{NodeLabels}

-- how many labels there are
abbrev pub label_count : NodeLabels → ℕ
label_count labels = length labels.texts.items

-- how many places there are
abbrev pub place_count : NodeLabels → ℕ
place_count labels = vec_len labels.of_places

-- the label with a number
abbrev pub label_text : NodeLabels → ℕ → List ℕ
label_text labels number = text_in labels.texts.items number

-- the number of the label of the node at a place
abbrev pub label_at : NodeLabels → ℕ → ℕ
label_at labels place = slice_index labels.of_places.items place

-- the bytes of the fields or the elements of the node at a place
abbrev pub size_at : NodeLabels → ℕ → ℕ
size_at labels place = slice_index labels.sizes.items place

-- each node of the tree has its label, and each label one number
pub record AreNodeLabels (facts : List FactValue) (retained : Retained) (labels : NodeLabels) : Type 0 where
  pub as_many : place_count labels ≡ count_of retained
  pub apart : (one other : ℕ) → one < label_count labels → other < label_count labels → label_text labels one ≡ label_text labels other
      → one ≡ other
  pub within : (place : ℕ) → 0 < place → place < count_of retained → label_at labels place < label_count labels
  pub right : (place : ℕ) → 0 < place → place < count_of retained
      → IsNodeLabel facts (node_at retained place) (label_text labels (label_at labels place))

-- each node of the tree has its size
abbrev pub HaveSizes : IdSize → List FactValue → Retained → NodeLabels → Type 0
HaveSizes ids facts retained labels =
    (place : ℕ) → 0 < place → place < count_of retained → IsSizeOf ids facts (node_at retained place) (size_at labels place)
