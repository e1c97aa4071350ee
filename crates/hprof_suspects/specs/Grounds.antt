-- What suspects are found from: the tree of dominators, the labels of its nodes, and which of these are class dumps alone. No public
-- contract speaks of it.
use Rattle.std.specs.Prelude.{◌≡◌, ◌<◌, ◌↔◌, ℕ, Bool, List, codes}
use Rattle.hprof_values.specs.declared.ids.IdSize.{IdSize}
use Rattle.hprof_items.specs.FactValue.{FactValue}
use Rattle.hprof_rows.specs.Conflict.{IsConsistent}
use Rattle.hprof_retained.specs.Tree.{IsTreeOf, count_of, node_at}
use Rattle.hprof_retained.specs.declared.retained.Retained.{Retained}
use Rattle.hprof_by_label.specs.Labels.{AreNodeLabels, label_at, label_text}
use Rattle.hprof_by_label.specs.declared.node_labels.NodeLabels.{NodeLabels}
use Rattle.hprof_suspects.specs.Groups.{IsClassAlone}
use Rattle.hprof_suspects.specs.PartPlaces.{IsMarked}

-- the node at a place has the label of classes
abbrev pub IsClassLabelled : NodeLabels → ℕ → Type 0
IsClassLabelled labels place = label_text labels (label_at labels place) ≡ codes "java/lang/Class"

-- of nodes with that label the facts of a heap have the objects that these facts have
abbrev pub HasClassObjects : List FactValue → Retained → NodeLabels → List FactValue → Type 0
HasClassObjects facts retained labels others = (place : ℕ) → 0 < place → place < count_of retained → IsClassLabelled labels place
    → IsClassAlone others (node_at retained place) ↔ IsClassAlone facts (node_at retained place)

-- the places of class dumps alone are marked
abbrev pub AreAlone : List FactValue → Retained → List Bool → Type 0
AreAlone facts retained alone = (place : ℕ) → 0 < place → place < count_of retained
    → IsMarked alone place ↔ IsClassAlone facts (node_at retained place)

-- all that is of these facts, which agree
pub record AreGrounds (ids : IdSize) (facts : List FactValue) (retained : Retained) (labels : NodeLabels) (marks : List Bool) : Type 0 where
  pub agree : IsConsistent facts
  pub tree : IsTreeOf ids facts retained
  pub labelled : AreNodeLabels facts retained labels
  pub alone : AreAlone facts retained marks
