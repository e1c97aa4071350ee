-- The report `why`: a shortest path of strong references from a GC root, with names, threads and frames. Its form is this project's own.
use Rattle.std.specs.Prelude.{◌≡◌, ◌⊎◌, ℕ, List, [], ◌∷◌, ◌++◌, Option, Some, None, codes}
use Rattle.std.specs.List.{flat_map}
use Rattle.hprof_values.specs.declared.ids.IdSize.{IdSize}
use Rattle.hprof_values.specs.declared.root.Root.{Root}
use Rattle.hprof_items.specs.FactValue.{FactValue}
use Rattle.hprof_rows.specs.Conflict.{IsConsistent}
use Rattle.hprof_heap.specs.Classes.{ClassValue}
use Rattle.hprof_edges.specs.declared.edge.Edge.{Edge}
use Rattle.hprof_edges.specs.Edges.{AnyEdge}
use Rattle.hprof_edges.specs.LeastEdge.{IsLeastEdgeBy}
use Rattle.hprof_reach.specs.Reaching.{IsDistanceBy, IsPathBy}
use Rattle.hprof_reach.specs.Roots.{AreRootsOf}
use Rattle.hprof_weak.specs.Weak.{IsStrong}
use Rattle.hprof_lines.specs.Line.{nothing_line}
use Rattle.hprof_reports.specs.PathText.{distance_line}
use Rattle.hprof_describe.specs.Findings.{AreFindings, Findings}
use Rattle.hprof_describe.specs.Nodes.{kind_text, node_text}
use Rattle.hprof_holders.specs.ThreadFindings.{AreThreadFindings, ThreadFindings}
use Rattle.hprof_holders.specs.RootsText.{roots_text}
use Rattle.hprof_holders.specs.Steps.{AreEdgeFindings, EdgeFindings, step_kind, step_text}
use Rattle.hprof_why.specs.Folding.{AreParts, Link, Part, part_text}

-- what is found of identifiers, threads and edges
pub record PathFindings : Type 0 where
  pub nodes : Findings
  pub threads : ThreadFindings
  pub edges : EdgeFindings

-- so it is among these facts
pub record ArePathFindings (ids : IdSize) (facts : List FactValue) (found : PathFindings) : Type 0 where
  pub are_nodes : AreFindings ids facts found.nodes
  pub are_threads : AreThreadFindings facts found.nodes.naming found.threads
  pub are_edges : AreEdgeFindings ids facts found.edges

-- ---- links

-- the link by an edge to a node
abbrev pub link_by : PathFindings → Edge → ℕ → Link
link_by found edge node = record {
  step = step_text found.nodes.naming found.edges edge;
  step_kind = step_kind found.nodes.naming found.edges edge;
  node = node_text found.nodes node;
  node_kind = kind_text found.nodes node;
}

-- the links from a node on, each by the least edge of which that holds
pub data AreLinks (P : Edge → Type 0) (ids : IdSize) (facts : List FactValue) (found : PathFindings)
    : ℕ → List ℕ → List Link → Type 0 where
  NoLink : (from : ℕ) → AreLinks P ids facts found from [] []
  OneLink : (from to : ℕ) (nodes : List ℕ) (edge : Edge) (links : List Link) → IsLeastEdgeBy P ids facts from to (Some edge)
      → AreLinks P ids facts found to nodes links → AreLinks P ids facts found from (to ∷ nodes) (link_by found edge to ∷ links)

-- ---- the path

-- the text of a path of so many steps by edges of which that holds: the distance, the roots of the first node, this node, and the parts
-- of the rest
pub record IsToldPath (P : Edge → Type 0) (ids : IdSize) (facts : List FactValue) (found : PathFindings) (distance : ℕ) (nodes : List ℕ)
    (text : List ℕ) : Type 0 where
  pub first : ℕ
  pub rest : List ℕ
  pub nodes_are : nodes ≡ first ∷ rest
  pub roots : List Root
  pub are_roots : AreRootsOf facts first roots
  pub links : List Link
  pub are_links : AreLinks P ids facts found first rest links
  pub parts : List Part
  pub are_parts : AreParts (kind_text found.nodes first) links parts
  pub is : text ≡ distance_line distance ++ roots_text found.nodes found.threads roots ++ node_text found.nodes first ++ codes "\n"
      ++ flat_map part_text parts

-- ---- which path

-- the identifier is reached so, along a path with that text
pub record IsReachedBy (P : Edge → Type 0) (ids : IdSize) (facts : List FactValue) (found : PathFindings) (id : ℕ) (text : List ℕ)
    : Type 0 where
  pub distance : ℕ
  pub is_distance : IsDistanceBy P ids facts id (Some distance)
  pub nodes : List ℕ
  pub is_path : IsPathBy P ids facts id (Some nodes)
  pub told : IsToldPath P ids facts found distance nodes text

-- the path by strong edges; where none leads there, that only weak ones do, and the path by all edges; or that no edges do
abbrev pub IsReachedText : IdSize → List FactValue → PathFindings → ℕ → List ℕ → Type 0
IsReachedText ids facts found id text = IsReachedBy (IsStrong facts) ids facts found id text
    ⊎ ((IsDistanceBy (IsStrong facts) ids facts id None
    × ((path : List ℕ) × IsReachedBy AnyEdge ids facts found id path × (text ≡ codes "only by weak references\n" ++ path)))
    ⊎ (IsDistanceBy AnyEdge ids facts id None × (text ≡ codes "not reached\n")))

-- that, of an identifier that has a class dump or an object dump
abbrev pub IsFoundText : ℕ → Option ClassValue → Option FactValue → (List ℕ → Type 0) → List ℕ → Type 0
IsFoundText id None None reached text = text ≡ nothing_line id
IsFoundText id class object reached text = reached text

-- the text is the report of these facts, which agree, on the identifier
pub record IsWhyText (ids : IdSize) (facts : List FactValue) (id : ℕ) (text : List ℕ) : Type 0 where
  pub agree : IsConsistent facts
  pub found : PathFindings
  pub are_found : ArePathFindings ids facts found
  pub is : IsFoundText id (found.nodes.class id) (found.nodes.object id) (IsReachedText ids facts found id) text
