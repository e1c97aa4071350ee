-- The places of chosen objects, as the objects come; no public contract speaks of it.
use Rattle.std.specs.Prelude.{◌≡◌, ◌⊎◌, ◌++◌, ℕ, List}
use Rattle.hprof_values.specs.declared.ids.IdSize.{IdSize}
use Rattle.hprof_items.specs.FactValue.{FactValue}
use Rattle.hprof_retained.specs.Retained.{IsHeld}
use Rattle.hprof_retained.specs.Tree.{IsTreeOf}
use Rattle.hprof_retained.specs.declared.retained.Retained.{Retained}
use Rattle.hprof_keeps.specs.Chosen.{IsChosen}
use Rattle.hprof_keeps.specs.Gathered.{IsChosenObject, places_of_node}
use Rattle.hprof_keeps.specs.Kept.{nodes_at}
use Rattle.hprof_keeps.specs.Order.{AreLargestFirst, retained_in}
use Rattle.hprof_keeps.specs.declared.biggest_over.ChosenTree.{ChosenTree}
use Rattle.hprof_keeps.specs.declared.choice.Choice.{Choice}
use Rattle.hprof_keeps.specs.declared.place_sink.PlaceSink.{PlaceSink}

-- the object is chosen, and its place was put behind the others, if it has one
pub record PutsPlace (object : FactValue) (old new : PlaceSink) : Type 0 where
  pub node : ℕ
  pub chosen : IsChosenObject old.choice object node
  pub places : new.places.items ≡ old.places.items ++ places_of_node old.retained.now node

-- it is not
pub record PutsNone (object : FactValue) (old new : PlaceSink) : Type 0 where
  pub none : (node : ℕ) → IsChosenObject old.choice object node → ⊥
  pub places : new.places.items ≡ old.places.items

pub record TakesPlace (ids : IdSize) (object : FactValue) (old new : PlaceSink) : Type 0 where
  pub retained : new.retained.now ≡ old.retained.now
  pub choice : new.choice ≡ old.choice
  pub more : PutsPlace object old new ⊎ PutsNone object old new

-- ---- in order

-- these are the places of all nodes of the choice, those that retain most first
abbrev pub AreChosenPlaces : IdSize → List FactValue → Choice → Retained → List ℕ → Type 0
AreChosenPlaces ids facts choice retained places =
    AreLargestFirst (retained_in retained) (λ node. IsHeld ids facts node × IsChosen facts choice node) (nodes_at retained places)

-- the tree, and these places in it
abbrev pub IsChosenTree : IdSize → List FactValue → Choice → ChosenTree → Type 0
IsChosenTree ids facts choice made =
    IsTreeOf ids facts made.retained × AreChosenPlaces ids facts choice made.retained made.places.items
