-- Class dumps alone in a small heap that has all objects with the label of classes are those of the whole.
use Rattle.std.specs.Prelude.{Contains}
use Rattle.std.proofs.Common.{◌<◌, ℕ, List}
use Rattle.hprof_values.specs.declared.ids.IdSize.{IdSize}
use Rattle.hprof_items.specs.FactValue.{FactValue}
use Rattle.hprof_small.specs.Small.{IsSmall}
use Rattle.hprof_small.proofs.SmallHas.{no_object_in_all, small_has}
use Rattle.hprof_words.proofs.Among.{among_of_contains}
use Rattle.hprof_retained.specs.Tree.{count_of, node_at}
use Rattle.hprof_retained.specs.declared.retained.Retained.{Retained}
use Rattle.hprof_by_label.specs.declared.node_labels.NodeLabels.{NodeLabels}
use Rattle.hprof_suspects.specs.Grounds.{HasClassObjects, IsClassLabelled}

pub class_objects : (ids : IdSize) (all small : List FactValue) (retained : Retained) (labels : NodeLabels) (wanted : List ℕ)
    → IsSmall ids wanted all small
    → ((place : ℕ) → 0 < place → place < count_of retained → IsClassLabelled labels place → Contains wanted (node_at retained place))
    → HasClassObjects all retained labels small
class_objects ids all small retained labels wanted is has place some low labelled = (
  no_object_in_all ids wanted all small is (node_at retained place)
      (among_of_contains wanted (node_at retained place) (has place some low labelled)),
  λ none fact there of. none fact (small_has ids wanted all small is fact there) of,
)
