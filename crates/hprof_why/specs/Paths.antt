-- Paths that searches tell; no public contract speaks of it.
use Rattle.std.specs.Prelude.{◌≡◌, ℕ, List, ◌++◌, Option, Some, None, codes}
use Rattle.hprof_values.specs.declared.ids.IdSize.{IdSize}
use Rattle.hprof_items.specs.FactValue.{FactValue}
use Rattle.hprof_edges.specs.declared.edge.Edge.{Edge}
use Rattle.hprof_edges.specs.Edges.{AnyEdge}
use Rattle.hprof_reach.specs.Reaching.{IsDistanceBy, IsPathBy}
use Rattle.hprof_weak.specs.Weak.{IsStrong}
use Rattle.hprof_why.specs.declared.path.Path.{Path}
use Rattle.hprof_why.specs.declared.reached.Reached.{Reached}
use Rattle.hprof_why.specs.declared.reached.Reached.TheVariants as reached
use Rattle.hprof_why.specs.WhyText.{IsFoundText, IsToldPath, PathFindings}

-- that is the path to an identifier, with its distance; none where no such edges lead there
abbrev pub IsPathTo : (Edge → Type 0) → IdSize → List FactValue → ℕ → Option Path → Type 0
IsPathTo P ids facts id (Some path) = IsDistanceBy P ids facts id (Some path.distance) × IsPathBy P ids facts id (Some path.nodes.items)
IsPathTo P ids facts id None = IsDistanceBy P ids facts id None

-- that is how an identifier is reached by all edges, if no strong ones lead to it
abbrev pub IsWithoutStrong : IdSize → List FactValue → ℕ → Reached → Type 0
IsWithoutStrong ids facts id (reached.Strongly path) = ⊥
IsWithoutStrong ids facts id (reached.Weakly path) = IsPathTo AnyEdge ids facts id (Some path)
IsWithoutStrong ids facts id reached.Nowise = IsPathTo AnyEdge ids facts id None

-- that is how it is reached
abbrev pub IsReached : IdSize → List FactValue → ℕ → Reached → Type 0
IsReached ids facts id (reached.Strongly path) = IsPathTo (IsStrong facts) ids facts id (Some path)
IsReached ids facts id other = IsDistanceBy (IsStrong facts) ids facts id None × IsWithoutStrong ids facts id other

-- the text tells it
abbrev pub TellsReached : IdSize → List FactValue → PathFindings → Reached → List ℕ → Type 0
TellsReached ids facts found (reached.Strongly path) text =
    IsToldPath (IsStrong facts) ids facts found path.distance path.nodes.items text
TellsReached ids facts found (reached.Weakly path) text = (told : List ℕ)
    × IsToldPath AnyEdge ids facts found path.distance path.nodes.items told × (text ≡ codes "only by weak references\n" ++ told)
TellsReached ids facts found reached.Nowise text = text ≡ codes "not reached\n"

-- the text tells it of an identifier that has a class dump or an object dump
abbrev pub TellsFound : IdSize → List FactValue → PathFindings → ℕ → Reached → List ℕ → Type 0
TellsFound ids facts found id reached text =
    IsFoundText id (found.nodes.class id) (found.nodes.object id) (TellsReached ids facts found reached) text
