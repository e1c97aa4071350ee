-- How far the labels of nodes have come; no public contract speaks of it.
use Rattle.std.specs.Prelude.{◌≡◌, ◌<◌, ℕ, List, [], ◌∷◌, ◌++◌, Option, length, slice_index}
use Rattle.hprof_values.specs.declared.ids.IdSize.{IdSize}
use Rattle.hprof_items.specs.FactValue.{FactValue}
use Rattle.hprof_heap.specs.Found.{IsObjectFound}
use Rattle.hprof_heap.specs.HeapFacts.{facts_of}
use Rattle.hprof_naming.specs.ClassNames.{AreClassNames}
use Rattle.hprof_numbers.specs.Numbered.{nodes_in}
use Rattle.hprof_dominators.specs.Tree as tree
use Rattle.hprof_retained.specs.Retained.{IsSizeOf}
use Rattle.hprof_retained.specs.declared.retained.Retained.{Retained}
use Rattle.hprof_by_label.specs.Kinds.{IsKept, IsKindLabel}
use Rattle.hprof_by_label.specs.NodeLabel.{IsFoundLabel}
use Rattle.hprof_by_label.specs.Texts.{IsTextIn}
use Rattle.hprof_by_label.specs.declared.kinds.Kind.{Kind}
use Rattle.hprof_by_label.specs.declared.labelling.Labelling.{Labelling}
use Rattle.hprof_by_label.specs.declared.label_sink.LabelSink.{LabelSink}

-- ---- labels of kinds

-- the number is that of the label of a kind
abbrev pub IsNumberOfKind : List FactValue → Labelling → Kind → ℕ → Type 0
IsNumberOfKind facts labelling kind number =
    (text : List ℕ) × IsKindLabel facts kind text × IsTextIn labelling.texts.texts.items number text

-- each kind that came up has the number of its label
abbrev pub IsLabelling : List FactValue → Labelling → Type 0
IsLabelling facts labelling = (kind : Kind) (number : ℕ) → IsKept labelling.kinds kind number → IsNumberOfKind facts labelling kind number

-- ---- labels of nodes

-- the number is that of the label of what was found of a node
--   facts: they tell the names of classes
abbrev pub IsNumberOfFound : List FactValue → Labelling → ℕ → Option FactValue → Type 0
IsNumberOfFound facts labelling number found =
    (text : List ℕ) × IsFoundLabel facts found text × IsTextIn labelling.texts.texts.items number text

-- these objects give each node with a place the label with the number there, and the size
module _ (ids : IdSize) (facts objects : List FactValue) (retained : Retained) (labelling : Labelling) (labels_at sizes_at : List ℕ) where
  pub record AreLabelled : Type 0 where
    pub labels : (number : ℕ) → number < length (nodes_in retained.nodes) → 0 < tree.place_of retained.tree number
        → (found : Option FactValue) × IsObjectFound objects (slice_index (nodes_in retained.nodes) number) found
        × IsNumberOfFound facts labelling (slice_index labels_at (tree.place_of retained.tree number)) found
    pub sizes : (number : ℕ) → number < length (nodes_in retained.nodes) → 0 < tree.place_of retained.tree number
        → IsSizeOf ids objects (slice_index (nodes_in retained.nodes) number) (slice_index sizes_at (tree.place_of retained.tree number))

-- the sink has labelled the nodes with these objects, if it knows the names of the heap's classes
pub record IsSoFar (ids : IdSize) (objects : List FactValue) (sink : LabelSink) : Type 0 where
  pub labelling : IsLabelling (facts_of sink.heap.now) sink.labelling
  pub labelled : AreLabelled ids (facts_of sink.heap.now) objects sink.retained.now sink.labelling sink.of_places.items sink.sizes.items

-- it has taken an object more
pub record TakesLabel (ids : IdSize) (object : FactValue) (old new : LabelSink) : Type 0 where
  pub heap : new.heap.now ≡ old.heap.now
  pub names : new.names.now ≡ old.names.now
  pub retained : new.retained.now ≡ old.retained.now
  pub so_far : AreClassNames (facts_of old.heap.now) old.names.now → (objects : List FactValue) → IsSoFar ids objects old
      → IsSoFar ids (objects ++ object ∷ []) new
