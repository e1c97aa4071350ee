-- How objects are reached from roots. Of roots: heapDumper.cpp, "HPROF binary format", HPROF_GC_ROOT_UNKNOWN and those behind it; what
-- they keep alive is their object. Nodes, steps and paths are this project's own.
use Rattle.std.specs.Prelude.{◌≡◌, ◌≢◌, ◌⊎◌, ℕ, List, Option}
use Rattle.hprof_values.specs.declared.ids.IdSize.{IdSize}
use Rattle.hprof_values.specs.declared.root.Root.{Root}
use Rattle.hprof_values.specs.declared.root.Root.TheVariants as roots
use Rattle.hprof_items.specs.FactValue.{FactValue, Rooted}
use Rattle.hprof_rows.specs.Facts.{Has}
use Rattle.hprof_heap.specs.Classes.{ClassValue, HasDump}
use Rattle.hprof_heap.specs.Objects.{IsObject}
use Rattle.hprof_edges.specs.declared.edge.Edge.{Edge}
use Rattle.hprof_edges.specs.declared.edge.Via.{Via}
use Rattle.hprof_edges.specs.Edges.{AnyEdge, IsEdge}
use Rattle.hprof_search.specs.Search.{IsSearch}
use Rattle.hprof_search.specs.Walks.{HasDistance, IsPath}
use Rattle.hprof_reach.specs.declared.reach.Reach.{Reach}

-- the identifier has a class dump, or an object dump
abbrev pub IsDumped : List FactValue → ℕ → Type 0
IsDumped facts id = ((dump : ClassValue) × HasDump facts dump × (dump.id ≡ id)) ⊎ ((fact : FactValue) × Has facts fact × IsObject id fact)

-- it is a node: it has a dump, and is not 0
abbrev pub IsNode : List FactValue → ℕ → Type 0
IsNode facts id = (id ≢ 0) × IsDumped facts id

-- the object that a root keeps alive. The reference of a JNI global root is none
abbrev pub root_id : Root → ℕ
root_id (roots.JniGlobal id reference) = id
root_id (roots.JniLocal id thread frame) = id
root_id (roots.JavaFrame id thread frame) = id
root_id (roots.NativeStack id thread) = id
root_id (roots.Sticky id) = id
root_id (roots.Block id thread) = id
root_id (roots.Monitor id) = id
root_id (roots.ThreadObject id thread trace) = id
root_id (roots.Unknown id) = id

-- one of the roots keeps it alive
pub record IsRooted (facts : List FactValue) (id : ℕ) : Type 0 where
  pub root : Root
  pub has : Has facts (Rooted root)
  pub is : root_id root ≡ id

-- chains begin at nodes that a root keeps alive
abbrev pub IsStart : List FactValue → ℕ → Type 0
IsStart facts id = IsNode facts id × IsRooted facts id

-- ---- by chosen edges

-- an edge of which that holds leads from the one identifier to the other, of whatever kind
pub record LeadsBy (P : Edge → Type 0) (ids : IdSize) (facts : List FactValue) (from to : ℕ) : Type 0 where
  pub via : Via
  pub position : ℕ
  pub edge : IsEdge ids facts (record { from = from; via = via; position = position; to = to })
  pub holds : P (record { from = from; via = via; position = position; to = to })

-- they lead on to nodes
abbrev pub IsStepBy : (Edge → Type 0) → IdSize → List FactValue → ℕ → ℕ → Type 0
IsStepBy P ids facts from to = LeadsBy P ids facts from to × IsNode facts to

-- how many such edges lead to an identifier from a root, and no fewer; none where none do
abbrev pub IsDistanceBy : (Edge → Type 0) → IdSize → List FactValue → ℕ → Option ℕ → Type 0
IsDistanceBy P ids facts id distance = HasDistance (IsStart facts) (IsStepBy P ids facts) id distance

-- the path to an identifier from a root: from its end back, each is the least node that is one nearer, with such an edge to the next
abbrev pub IsPathBy : (Edge → Type 0) → IdSize → List FactValue → ℕ → Option (List ℕ) → Type 0
IsPathBy P ids facts id path = IsPath (IsStart facts) (IsStepBy P ids facts) id path

-- what is kept is a search from roots: each identifier that they lead to, in the order of distances, and from which it was reached
abbrev pub IsReachBy : (Edge → Type 0) → IdSize → List FactValue → Reach → Type 0
IsReachBy P ids facts reach = IsSearch (IsStart facts) (IsStepBy P ids facts) reach.search

-- ---- by all edges

-- an edge leads from the one identifier to the other
abbrev pub Leads : IdSize → List FactValue → ℕ → ℕ → Type 0
Leads ids facts from to = LeadsBy AnyEdge ids facts from to

-- they lead on to nodes
abbrev pub IsStep : IdSize → List FactValue → ℕ → ℕ → Type 0
IsStep ids facts from to = IsStepBy AnyEdge ids facts from to

-- how many edges lead to an identifier from a root, and no fewer; none where none do
abbrev pub IsDistanceFromRoots : IdSize → List FactValue → ℕ → Option ℕ → Type 0
IsDistanceFromRoots ids facts id distance = IsDistanceBy AnyEdge ids facts id distance

-- the path to an identifier from a root, by the least node each time
abbrev pub IsPathFromRoots : IdSize → List FactValue → ℕ → Option (List ℕ) → Type 0
IsPathFromRoots ids facts id path = IsPathBy AnyEdge ids facts id path

-- what is kept is a search from roots
abbrev pub IsReach : IdSize → List FactValue → Reach → Type 0
IsReach ids facts reach = IsReachBy AnyEdge ids facts reach
