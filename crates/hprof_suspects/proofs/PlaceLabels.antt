-- The labels of the nodes at places.
use Rattle.std.proofs.Common.{◌≡◌, ◌<◌, ◌∙◌, ℕ, List, None, codes, refl, sym, subst}
use Rattle.hprof_items.specs.FactValue.{FactValue}
use Rattle.hprof_rows.specs.Conflict.{IsConsistent}
use Rattle.hprof_retained.specs.Tree.{count_of, node_at}
use Rattle.hprof_retained.specs.declared.retained.Retained.{Retained}
use Rattle.hprof_by_label.specs.Labels.{AreNodeLabels, label_at, label_text}
use Rattle.hprof_by_label.specs.NodeLabel.{IsNodeLabel}
use Rattle.hprof_by_label.specs.declared.node_labels.NodeLabels.{NodeLabels}
use Rattle.hprof_by_label.proofs.OneLabel.{one_node_label}
use Rattle.hprof_suspects.specs.Groups.{HaveOneLabel, IsClassAlone}

module _ (facts : List FactValue) (agree : IsConsistent facts) (retained : Retained) (labels : NodeLabels)
    (are : AreNodeLabels facts retained labels) where
  -- the label of the node at a place is the one that has the place's number
  pub label_is : (place : ℕ) → 0 < place → place < count_of retained → (label : List ℕ) → IsNodeLabel facts (node_at retained place) label
      → label_text labels (label_at labels place) ≡ label
  label_is place some low label is =
      one_node_label facts agree (node_at retained place) (label_text labels (label_at labels place)) label (are.right place some low) is

  pub label_of_class : (place : ℕ) → 0 < place → place < count_of retained → IsClassAlone facts (node_at retained place)
      → label_text labels (label_at labels place) ≡ codes "java/lang/Class"
  label_of_class place some low alone = label_is place some low (codes "java/lang/Class") (None, alone, refl)

  -- nodes with one label have one number
  pub one_number : (one other : ℕ) → 0 < one → one < count_of retained → 0 < other → other < count_of retained
      → HaveOneLabel facts (node_at retained one) (node_at retained other) → label_at labels one ≡ label_at labels other
  one_number one other some low other_some other_low alike =
      are.apart (label_at labels one) (label_at labels other) (are.within one some low) (are.within other other_some other_low)
      (label_is one some low alike.0 alike.1 ∙ sym (label_is other other_some other_low alike.0 alike.2))

  pub one_label : (one other : ℕ) → 0 < one → one < count_of retained → 0 < other → other < count_of retained
      → label_at labels one ≡ label_at labels other → HaveOneLabel facts (node_at retained one) (node_at retained other)
  one_label one other some low other_some other_low same = (
    label_text labels (label_at labels one),
    are.right one some low,
    subst (λ (n : ℕ). IsNodeLabel facts (node_at retained other) (label_text labels n)) (sym same) (are.right other other_some other_low),
  )
