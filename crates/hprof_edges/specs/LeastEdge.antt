-- The least edge between two identifiers, in the order of edges.
use Rattle.std.specs.Prelude.{◌≡◌, ◌≢◌, ◌==◌, ℕ, Bool, true, List, Option, Some, None, Contains}
use Rattle.std.specs.declared.cmp.Ordering.TheVariants.{Greater}
use Rattle.hprof_values.specs.declared.ids.IdSize.{IdSize}
use Rattle.hprof_items.specs.FactValue.{FactValue}
use Rattle.hprof_edges.specs.contracts.edge.EdgeOrd.TheImpl as edge_ord
use Rattle.hprof_edges.specs.declared.edge.Edge.{Edge}
use Rattle.hprof_edges.specs.declared.least.LeastEdge.{LeastEdge}
use Rattle.hprof_edges.specs.Edges.{AnyEdge, IsEdge}

-- it is an edge from the one identifier to the other, of which that holds
pub record IsEdgeBetween (P : Edge → Type 0) (ids : IdSize) (facts : List FactValue) (from to : ℕ) (edge : Edge) : Type 0 where
  pub edge_is : IsEdge ids facts edge
  pub from_is : edge.from ≡ from
  pub to_is : edge.to ≡ to
  pub holds : P edge

-- no edge comes before it of those of which that holds
abbrev pub IsLeast : (Edge → Type 0) → Edge → Type 0
IsLeast P edge = P edge × ((other : Edge) → P other → (edge_ord.ghosts).cmp edge other ≢ Greater)

-- the least edge of which that holds, if there is one
abbrev pub IsLeastOf : (Edge → Type 0) → Option Edge → Type 0
IsLeastOf P (Some edge) = IsLeast P edge
IsLeastOf P None = (edge : Edge) → P edge → ⊥

-- the least edge from the one identifier to the other of which that holds, if there is one
abbrev pub IsLeastEdgeBy : (Edge → Type 0) → IdSize → List FactValue → (from to : ℕ) → Option Edge → Type 0
IsLeastEdgeBy P ids facts from to edge = IsLeastOf (IsEdgeBetween P ids facts from to) edge

-- the least of all edges from the one to the other, if there is one
abbrev pub IsLeastEdge : IdSize → List FactValue → (from to : ℕ) → Option Edge → Type 0
IsLeastEdge ids facts from to edge = IsLeastEdgeBy AnyEdge ids facts from to edge

-- ---- what is kept

-- whether it leads to the identifier
abbrev pub leads_to : LeastEdge → Edge → Bool
leads_to least edge = edge.to == least.to

-- it is one of these edges, and leads to the identifier
abbrev pub IsOneTo : LeastEdge → List Edge → Edge → Type 0
IsOneTo least edges edge = Contains edges edge × (leads_to least edge ≡ true)

-- the least of those edges is kept that lead to the identifier
abbrev pub KeepsLeast : LeastEdge → List Edge → Type 0
KeepsLeast least edges = IsLeastOf (IsOneTo least edges) least.edge
