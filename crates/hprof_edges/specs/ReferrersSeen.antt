-- A sink that collects the edges to an identifier; no public contract speaks of it.
use Rattle.std.specs.Prelude.{◌≡◌, List}
use Rattle.hprof_values.specs.declared.ids.IdSize.{IdSize}
use Rattle.hprof_items.specs.FactValue.{FactValue}
use Rattle.hprof_layouts.specs.Known.{Knows}
use Rattle.hprof_edges.specs.declared.edge.Edge.{Edge}
use Rattle.hprof_edges.specs.Collecting.{PutBehind, is_edge_wanted}
use Rattle.hprof_edges.specs.DumpEdges.{IsObjectEdge}
use Rattle.hprof_edges.specs.EdgeSet.{SetOf, wanted_in}
use Rattle.hprof_edges.specs.declared.referrer_sink.ReferrerSink.{ReferrerSink}

-- behind the edges that it was given it was given those of the object, for facts whose layouts it knows
pub record TakesEdges (ids : IdSize) (object : FactValue) (old new : ReferrerSink) : Type 0 where
  pub known : new.known ≡ old.known
  pub keeps : is_edge_wanted (wanted_in new.set) ≡ is_edge_wanted (wanted_in old.set)
  pub gives : (facts : List FactValue) (edges : List Edge) → Knows ids facts old.known → SetOf old.set edges
      → PutBehind (SetOf new.set) edges (IsObjectEdge ids facts object)
