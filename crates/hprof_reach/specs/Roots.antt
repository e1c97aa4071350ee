-- The roots that keep an object alive.
use Rattle.std.specs.Prelude.{◌≡◌, ◌↔◌, ◌==◌, ℕ, List, [], ◌∷◌, map, Option, Some, None, Contains, if◌then◌else◌}
use Rattle.hprof_values.specs.declared.root.Root.{Root}
use Rattle.hprof_items.specs.FactValue.{FactValue, Rooted}
use Rattle.hprof_rows.specs.Facts.{Has}
use Rattle.hprof_rows.specs.Order.{IsCanonicalOrder}
use Rattle.hprof_reach.specs.Reaching.{root_id}

-- these are the roots of the object, in canonical order, each once
pub record AreRootsOf (facts : List FactValue) (id : ℕ) (roots : List Root) : Type 0 where
  pub ordered : IsCanonicalOrder (map Rooted roots)
  pub exact : (root : Root) → Contains roots root ↔ (Has facts (Rooted root) × (root_id root ≡ id))

-- ---- one by one

-- the root that a fact is
abbrev pub root_in : FactValue → Option Root
root_in (Rooted root) = Some root
root_in fact = None

-- that, if it keeps the object alive
abbrev pub roots_here : ℕ → Option Root → List Root
roots_here id (Some root) = if root_id root == id then root ∷ [] else []
roots_here id None = []
