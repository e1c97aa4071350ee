-- A sink that makes the edges of a heap of its objects; no public contract speaks of it.
use Rattle.std.specs.Prelude.{◌≡◌, ◌<◌, ◌+◌, ◌↔◌, ℕ, List, [], ◌∷◌, ◌++◌, length, slice_index}
use Rattle.hprof_values.specs.declared.ids.IdSize.{IdSize}
use Rattle.hprof_items.specs.FactValue.{FactValue}
use Rattle.hprof_heap.specs.Classes.{ClassValue, HasDump}
use Rattle.hprof_heap.specs.HeapFacts.{facts_of}
use Rattle.hprof_heap.specs.Objects.{IsObject}
use Rattle.hprof_layouts.specs.Known.{Knows}
use Rattle.hprof_edges.specs.LeftOut.{IsKept, fields_in}
use Rattle.hprof_edges.specs.declared.field_place.FieldPlace.{FieldPlace}
use Rattle.hprof_numbers.specs.Lists.{IsListed, count_in}
use Rattle.hprof_numbers.specs.Numbered.{nodes_in}
use Rattle.hprof_numbers.specs.declared.lists.Lists.{Lists}
use Rattle.hprof_reach.specs.EdgesSoFar.{AreMade, LeadsByClass, LeadsByObjects}
use Rattle.hprof_reach.specs.Graph.{TellsEdges, targets_in}
use Rattle.hprof_reach.specs.Reaching.{LeadsBy}
use Rattle.hprof_reach.specs.declared.edge_sink.EdgeSink.{EdgeSink}

-- the nodes whose lists it makes
abbrev pub nodes_of : EdgeSink → List ℕ
nodes_of sink = nodes_in sink.nodes

-- the fields whose edges it leaves out
abbrev pub fields_of : EdgeSink → List FieldPlace
fields_of sink = fields_in sink.graph.left_out.now

-- of facts that have the class dumps of the heap it was given these objects, and no others
pub record HasSeen (ids : IdSize) (facts objects : List FactValue) (sink : EdgeSink) : Type 0 where
  pub dumps : (dump : ClassValue) → HasDump facts dump ↔ HasDump (facts_of sink.graph.heap.now) dump
  pub knows : Knows ids facts sink.graph.known
  pub tells : TellsEdges sink.graph
  pub made : AreMade (nodes_of sink) (LeadsByClass facts) (LeadsByObjects ids facts (fields_of sink) objects) sink.lists
      (targets_in sink.graph)

-- each node that has its list is below that
abbrev pub EndsBelow : EdgeSink → ℕ → Type 0
EndsBelow sink low = (number : ℕ) → number < count_in sink.lists → slice_index (nodes_of sink) number < low

-- it makes the lists of the same nodes, without the same edges
pub record StaysOver (old new : EdgeSink) : Type 0 where
  pub nodes : nodes_of new ≡ nodes_of old
  pub fields : fields_of new ≡ fields_of old

-- it was given the next object, whose identifier no list that has ended has reached
pub record SeesNext (ids : IdSize) (object : FactValue) (old new : EdgeSink) : Type 0 where
  pub stays : StaysOver old new
  pub seen : (facts objects : List FactValue) (id : ℕ) → HasSeen ids facts objects old → IsObject id object → EndsBelow old id
      → HasSeen ids facts (objects ++ object ∷ []) new × EndsBelow new (id + 1)

-- the lists have the edges of these facts between nodes, without those by the fields
abbrev pub AreKeptEdges : IdSize → List FactValue → List FieldPlace → List ℕ → Lists → Type 0
AreKeptEdges ids facts fields nodes lists = (from to : ℕ) → from < length nodes → to < length nodes
    → IsListed lists from to ↔ LeadsBy (IsKept fields facts) ids facts (slice_index nodes from) (slice_index nodes to)
