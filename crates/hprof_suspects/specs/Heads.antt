-- The heads of groups, by places; no public contract speaks of them.
use Rattle.std.specs.Prelude.{◌≡◌, ◌⊎◌, ◌<◌, ℕ, List, length, slice_index}
use Rattle.hprof_values.specs.declared.ids.IdSize.{IdSize}
use Rattle.hprof_items.specs.FactValue.{FactValue}
use Rattle.hprof_dominators.specs.Above.{up_in}
use Rattle.hprof_retained.specs.Tree.{above_in, count_of, node_at}
use Rattle.hprof_retained.specs.declared.retained.Retained.{Retained}
use Rattle.hprof_suspects.specs.Groups.{Joins}

-- the place right above; 0 of those right below the roots
abbrev pub up : Retained → ℕ → ℕ
up retained place = up_in (above_in retained) place

-- the place of the head of a place's group
abbrev pub head_in : List ℕ → ℕ → ℕ
head_in heads place = slice_index heads place

-- the node at a place is of the group of the node at the place right above
abbrev pub JoinsAbove : IdSize → List FactValue → Retained → ℕ → Type 0
JoinsAbove ids facts retained place =
    (0 < up retained place) × Joins ids facts (node_at retained place) (node_at retained (up retained place))

-- then it has the same head, and otherwise it is one
abbrev pub IsHeadOf : IdSize → List FactValue → Retained → List ℕ → ℕ → ℕ → Type 0
IsHeadOf ids facts retained heads place head = (JoinsAbove ids facts retained place × (head ≡ head_in heads (up retained place)))
    ⊎ ((¬ (JoinsAbove ids facts retained place)) × (head ≡ place))

-- each place has a place for its head
pub record HeadsFit (retained : Retained) (heads : List ℕ) : Type 0 where
  pub as_many : length heads ≡ count_of retained
  pub low : (place : ℕ) → place < count_of retained → head_in heads place < count_of retained

-- each place but 0 has its head; that of 0 is 0
pub record AreHeads (ids : IdSize) (facts : List FactValue) (retained : Retained) (heads : List ℕ) : Type 0 where
  pub as_many : length heads ≡ count_of retained
  pub top : head_in heads 0 ≡ 0
  pub each : (place : ℕ) → 0 < place → place < count_of retained → IsHeadOf ids facts retained heads place (head_in heads place)
