-- A node that has a place stands there.
use Rattle.std.proofs.Common.{◌≡◌, ◌≢◌, ◌<◌, ◌∙◌, ℕ, List, Option, Some, None, refl, ap, subst, arith}
use Rattle.hprof_values.specs.declared.ids.IdSize.{IdSize}
use Rattle.hprof_items.specs.FactValue.{FactValue}
use Rattle.std.specs.Prelude.{slice_index}
use Rattle.hprof_numbers.specs.Numbered.{nodes_in}
use Rattle.hprof_numbers.specs.Places.{number_in}
use Rattle.hprof_numbers.proofs.Placed.{stands}
use Rattle.hprof_dominators.specs.Tree as tree
use Rattle.hprof_retained.specs.Retained.{IsHeld}
use Rattle.hprof_retained.specs.Tree.{IsTreeOf, count_of, node_at, place_of, place_of_number}
use Rattle.hprof_retained.specs.declared.retained.Retained.{Retained}

pub placed : (retained : Retained) (node : ℕ) → place_of retained node ≢ 0
    → (0 < place_of retained node) × (place_of retained node < count_of retained) × (node_at retained (place_of retained node) ≡ node)
placed retained node some = go (number_in (nodes_in retained.nodes) node) refl some where
  go : (number : Option ℕ) → number_in (nodes_in retained.nodes) node ≡ number → place_of_number retained number ≢ 0
      → (0 < place_of_number retained number) × (place_of_number retained number < count_of retained)
      × (node_at retained (place_of_number retained number) ≡ node)
  go None is none = absurd (none refl)
  go (Some number) is some =
      let positive : 0 < tree.place_of retained.tree number = omega (arith, some) in
      let new = retained.numbered.new number positive in
      (positive, new.0, ap (slice_index (nodes_in retained.nodes)) new.1 ∙ (stands (nodes_in retained.nodes) node number is).1)

-- so it is decided whether it is held
pub held_there : (ids : IdSize) (facts : List FactValue) (retained : Retained) → IsTreeOf ids facts retained → (node : ℕ)
    → place_of retained node ≢ 0 → IsHeld ids facts node
held_there ids facts retained is node some =
    let at = placed retained node some in
    subst (IsHeld ids facts) at.2 (is.held (place_of retained node) at.0 at.1).0

pub not_held : (ids : IdSize) (facts : List FactValue) (retained : Retained) → IsTreeOf ids facts retained → (node : ℕ)
    → place_of retained node ≡ 0 → ¬ (IsHeld ids facts node)
not_held ids facts retained is node none held = let some = (is.found node held).0 in absurd (omega arith)
