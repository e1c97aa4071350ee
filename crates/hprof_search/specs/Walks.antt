-- Walks from starts along steps, from node to node.
use Rattle.std.specs.Prelude.{◌≡◌, ◌+◌, ◌-◌, ◌<◌, ◌≤◌, ◌↔◌, ◌≢◌, ℕ, zero, suc, List, [], ◌∷◌, Option, Some, None, AllPairs, Contains}
use Rattle.std.specs.Prelude.{length, reverse, slice_index}

module _ (Starts : ℕ → Type 0) (Steps : ℕ → ℕ → Type 0) where
  -- so many steps from a start lead there
  abbrev pub Reaches : ℕ → ℕ → Type 0
  Reaches zero node = Starts node
  Reaches (suc count) node = (before : ℕ) × Reaches count before × Steps before node

  -- and no fewer do
  pub record IsDistance (node count : ℕ) : Type 0 where
    pub reaches : Reaches count node
    pub least : (other : ℕ) → Reaches other node → count ≤ other

  -- the distance of a node; none where no start leads there
  abbrev pub HasDistance : ℕ → Option ℕ → Type 0
  HasDistance node None = (count : ℕ) → Reaches count node → ⊥
  HasDistance node (Some count) = IsDistance node count

  -- of the nodes at that distance with a step to the node, the least
  pub record IsLeastBefore (count before node : ℕ) : Type 0 where
    pub distance : IsDistance before count
    pub steps : Steps before node
    pub least : (other : ℕ) → IsDistance other count → Steps other node → before ≤ other

  -- a start is found from itself, and another node from the least of those one step nearer with a step to it
  abbrev pub IsFoundFrom : ℕ → ℕ → ℕ → Type 0
  IsFoundFrom zero before node = before ≡ node
  IsFoundFrom (suc count) before node = IsLeastBefore count before node

  -- from a node at that distance back to a start, by the least node before each time
  abbrev pub IsWayBack : ℕ → ℕ → List ℕ → Type 0
  IsWayBack zero node nodes = IsDistance node 0 × (nodes ≡ node ∷ [])
  IsWayBack (suc count) node nodes = IsDistance node (suc count)
      × ((before : ℕ) × (rest : List ℕ) × (nodes ≡ node ∷ rest) × IsLeastBefore count before node × IsWayBack count before rest)

  -- the path to a node, from a start; none where no start leads there
  abbrev pub IsPath : ℕ → Option (List ℕ) → Type 0
  IsPath node None = (count : ℕ) → Reaches count node → ⊥
  IsPath node (Some nodes) = (count : ℕ) × IsWayBack count node (reverse nodes)

  -- the one is no farther than the other
  abbrev pub IsNoFarther : ℕ → ℕ → Type 0
  IsNoFarther one other = (near far : ℕ) → IsDistance one near → IsDistance other far → near ≤ far

  -- the nodes that have a distance, each once, and none behind one that is farther
  pub record IsOrder (nodes : List ℕ) : Type 0 where
    pub reached : (node : ℕ) → Contains nodes node ↔ ((count : ℕ) × IsDistance node count)
    pub once : AllPairs (λ one other. one ≢ other) nodes
    pub ascend : AllPairs IsNoFarther nodes

  -- nodes, the first of which is a start, with a step from each to the next, up to a node
  pub record IsWalk (nodes : List ℕ) (node : ℕ) : Type 0 where
    pub some : 0 < length nodes
    pub starts : Starts (slice_index nodes 0)
    pub steps : (place : ℕ) → place + 1 < length nodes → Steps (slice_index nodes place) (slice_index nodes (place + 1))
    pub ends : slice_index nodes (length nodes - 1) ≡ node
